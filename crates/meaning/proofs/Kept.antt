-- Law 1: fresh memory is sound, and every call leaves sound memory sound.
use Prim.Native.Nat.{ℕ, ◌+◌, ◌≤◌, ◌<◌}
use native.Mathlib.Omega.{arith}
use native.Mathlib.Decide.{ℕ_discrete, dec_le}
use mathlib.Core.Path.{◌≡◌, refl, sym, ap, ◌∙◌}
use mathlib.Core.Logic.{inl, inr}
use mathlib.Core.Bool.{Bool, true, false, ◌&&◌, ◌||◌, not, cond, false≢true}
use mathlib.Core.List.{List, [], ◌∷◌}
use lib.ListN.{length}
use lib.Dec.{eqb}
use borrow.Author.Tests.{eqb-true, eq-eqb, ne_eqb, le-leb, lt-ltb, le-ltb, ltb-true}
use Rattle.meaning.specs.Octets.{every, implies, nonempty}
use Rattle.meaning.specs.Checks.{first_failed, when_passed}
use Rattle.meaning.specs.Table.{Row, row_at, rows, by_port, by_controller, place, entry_count, memory_length, commit}
use Rattle.meaning.specs.Block.{sums, permits, keeps, form_and_fit}
use Rattle.meaning.specs.Memory.{waiting, store, set_marks, set_timer, subscribed, pending, in_flight, expiries, four_present, timer_sound, sound, fresh}
use Rattle.meaning.specs.Profile.{listed, in_memory, sendable}
use Rattle.meaning.specs.Operation.{Op, capabilities, read, set, subscribe, unsubscribe, selective_read, selective_subscribe, selective_unsubscribe, delete_entry}
use Rattle.meaning.specs.Step.{block, commits, permitted, set_checks, stored, set_memory, subscribe_memory, unsubscribe_memory, step, after}
use Rattle.meaning.specs.Calls.{Outcome, number_only, call, Moment, when_sent, when_acknowledged, when_given_up, in_flight_after, turned, handled, carried_out, acknowledged, is_command, message_checks, message, ops_of, local_permitted, differs, local_memory, local_checks, local_value, build_checks, build, expired, expiry_checks, expiry, make_fresh}
use Rattle.meaning.proofs.All.{all}
use Rattle.meaning.proofs.Tests.{same_true, every_at, implied, first-passed}
use Rattle.meaning.proofs.Values.{permits_opened}
use Rattle.meaning.proofs.Blocks.{form_spelt}
use Rattle.meaning.proofs.Places.{listed-place, timer-set_timer}
use Rattle.meaning.proofs.Sound.{Sound, opened, put-sound, set_timer-sound}
use Rattle.meaning.proofs.Turned.{set_marks-sound, marks_of, turned_to}
use Rattle.meaning.proofs.Checked.{call-memory, set_either}

pub fresh-sound : sound fresh ≡ true
unfolding all
fresh-sound = refl

-- ---- a set

pub permits-most : (r : Row) (v : List ℕ) → permits r v ≡ true → length v ≤ r.most
permits-most r v e = (permits_opened r v e).1

pub block-length : (b : List ℕ) → form_and_fit b ≡ true → (29 ≤ length b) × (length b ≤ 470)
block-length b e =
    let r = (form_spelt b e).1 in
    (omega (arith, r.long, r.at_least_one), omega (arith, r.long, r.at_most))

block-permitted : (b : List ℕ) → form_and_fit b ≡ true → permits (row_at commit) b ≡ true
unfolding permits row_at rows every keeps
block-permitted b e =
    let h = block-length b e in
    simp (le-leb 29 (length b) h.0, le-leb (length b) 470 h.1, e)

-- what the test of a commit says where it passes
pub record Committing (m v : List ℕ) : Type 0 where
  pub four : four_present m ≡ true
  pub four_octets : length v ≡ 4
  pub form : form_and_fit (block m) ≡ true
  pub sums_agree : v ≡ sums (block m)

pub committing : (m v : List ℕ) → commits m v ≡ true → Committing m v
unfolding commits
committing m v e =
    record {
      four = every_at _ 0 e;
      four_octets = eqb-true _ _ (every_at _ 1 e);
      form = every_at _ 2 e;
      sums_agree = same_true v (sums (block m)) (every_at _ 3 e);
    }

-- a value that is permitted may be stored, and what is stored is
pub stored-permitted : (p : ℕ) (m : List ℕ) (k : ℕ) (v : List ℕ) → permitted p m k v ≡ true
    → (permits (row_at k) (stored p m k v) ≡ true) × (k ≡ commit → four_present m ≡ true)
unfolding permitted stored
stored-permitted p m k v e = go (ℕ_discrete k commit)
  where
    go : Dec (k ≡ commit) → (permits (row_at k) (cond (eqb k commit) (block m) (in_memory p k v)) ≡ true) × (k ≡ commit → four_present m ≡ true)
    go (yes q) =
        let c = committing m v (simp (eq-eqb k commit q) at e) in
        (simp (eq-eqb k commit q) (rw q (block-permitted (block m) c.form)), λ _. c.four)
    go (no q) = (simp (ne_eqb k commit q) (simp (ne_eqb k commit q) at e), λ h. absurd (q h))

pub store-sound : (m : List ℕ) (k : ℕ) (v : List ℕ) → Sound m → k < entry_count → permits (row_at k) v ≡ true → (k ≡ commit → four_present m ≡ true)
    → sound (store m k v) ≡ true
unfolding store
store-sound m k v S hk e four =
    put-sound m k true (subscribed m k) (pending m k) (in_flight m k) v S hk (permits-most (row_at k) v e) (inl refl) (marks_of m k S hk) e four

-- what the checks of a set say where they pass
pub record Settable (p : ℕ) (m : List ℕ) (n : ℕ) (v : List ℕ) : Type 0 where
  pub is_listed : listed p n ≡ true
  pub controls : by_controller (row_at (place n)).owner ≡ true
  pub answerable : sendable p v ≡ true
  pub allowed : permitted p m (place n) v ≡ true

pub settable : (p : ℕ) (m : List ℕ) (n : ℕ) (v : List ℕ) → first_failed (set_checks p m n v) ≡ 0 → Settable p m n v
unfolding set_checks
settable p m n v e =
    let a = first-passed 0 _ _ e in
    let b = first-passed 0x6E _ _ a.1 in
    let c = first-passed 0x6E _ _ b.1 in
    let d = first-passed 1 _ _ c.1 in
    record { is_listed = a.0; controls = b.0; answerable = c.0; allowed = d.0 }

set-sound : (p : ℕ) (m : List ℕ) (n : ℕ) (v : List ℕ) → sound m ≡ true → sound (set_memory p m n v) ≡ true
set-sound p m n v s =
    set_either p m n v (λ m'. sound m' ≡ true)
    (λ e.
    let t = settable p m n v e in
    let q = stored-permitted p m (place n) v t.allowed in
    store-sound m (place n) (stored p m (place n) v) (opened m s) (listed-place p n t.is_listed) q.0 q.1)
    s

-- ---- marks

subscribed_marks : (q o b : Bool) → implies q (o && b) ≡ true → implies q b ≡ true
unfolding implies
subscribed_marks true true b e = e
subscribed_marks true false b e = absurd (false≢true e)
subscribed_marks false o b e = refl

subscribe-sound : (p : ℕ) (m : List ℕ) (n : ℕ) → sound m ≡ true → sound (subscribe_memory p m n) ≡ true
unfolding subscribe_memory
subscribe-sound p m n s = go (listed p n) refl
  where
    go : (b : Bool) → listed p n ≡ b → sound (cond b (set_marks m (place n) true (pending m (place n)) (in_flight m (place n))) m) ≡ true
    go true e =
        let S = opened m s in
        let k = place n in
        let hk = listed-place p n e in
        let r = marks_of m k S hk in
        set_marks-sound m k true (pending m k) (in_flight m k) S hk
        record { due = subscribed_marks _ (subscribed m k) _ r.due; out = subscribed_marks _ (subscribed m k) _ r.out }
    go false e = s

unsubscribe-sound : (p : ℕ) (m : List ℕ) (n : ℕ) → sound m ≡ true → sound (unsubscribe_memory p m n) ≡ true
unfolding unsubscribe_memory implies
unsubscribe-sound p m n s = go (listed p n) refl
  where
    go : (b : Bool) → listed p n ≡ b → sound (cond b (set_marks m (place n) false false false) m) ≡ true
    go true e = set_marks-sound m (place n) false false false (opened m s) (listed-place p n e) record { due = refl; out = refl }
    go false e = s

-- ---- every operation, and every list of them

pub step-sound : (p : ℕ) (m : List ℕ) (o : Op) → sound m ≡ true → sound (step p m o) ≡ true
unfolding step
step-sound p m capabilities s = s
step-sound p m (read n) s = s
step-sound p m (set n v) s = set-sound p m n v s
step-sound p m (subscribe n) s = subscribe-sound p m n s
step-sound p m (unsubscribe n) s = unsubscribe-sound p m n s
step-sound p m (selective_read n v) s = s
step-sound p m (selective_subscribe n v) s = s
step-sound p m (selective_unsubscribe n v) s = s
step-sound p m (delete_entry n v) s = s

pub after-sound : (p : ℕ) (m : List ℕ) (os : List Op) → sound m ≡ true → sound (after p m os) ≡ true
unfolding after
after-sound p m [] s = s
after-sound p m (o ∷ os) s = after-sound p (step p m o) os (step-sound p m o s)

-- ---- a message

-- the timer made idle, and the marks of what was waiting turned before
abbrev pub idled : Moment → List ℕ → List ℕ
idled t m = set_timer (turned t entry_count m) 0 0

-- a command leaves the memory after its operations, an acknowledgement that of what is acknowledged
pub handled_either : (p : ℕ) (P : List ℕ → Type 0) (m s : List ℕ) → (is_command s ≡ true → P (after p m (ops_of p s))) → (is_command s ≡ false → P (idled when_acknowledged m))
    → P (handled p m s).memory
unfolding handled carried_out acknowledged
handled_either p P m s f g = go (is_command s) refl
  where
    go : (b : Bool) → is_command s ≡ b → P (cond b (carried_out p m (ops_of p s)) (acknowledged m)).memory
    go true e = f e
    go false e = g e

abbrev IsSound : List ℕ → Type 0
IsSound m = sound m ≡ true

timer_idle : timer_sound (0 ∷ 0 ∷ []) ≡ true
unfolding timer_sound
timer_idle = refl

timer-waiting : (n : ℕ) → n ≤ 4 → timer_sound (1 ∷ n ∷ []) ≡ true
unfolding timer_sound
timer-waiting n h = le-leb n 4 h

-- nothing is in flight once a notification is acknowledged or given up, so the port may be idle then
pub idled_sound : (t : Moment) (m : List ℕ) → ((q i : Bool) → in_flight_after t q i ≡ false) → sound m ≡ true → waiting m ≡ true → sound (idled t m) ≡ true
idled_sound t m none s w =
    let T = turned_to t entry_count m (omega arith) s w in
    set_timer-sound (turned t entry_count m) 0 0 (opened (turned t entry_count m) T.is_sound) timer_idle
    (λ j hj e. absurd (false≢true (sym (none _ _) ∙ sym (T.marks j hj).flight ∙ e)))

pub none_acknowledged : (q i : Bool) → in_flight_after when_acknowledged q i ≡ false
unfolding in_flight_after
none_acknowledged q i = refl

pub none_given_up : (q i : Bool) → in_flight_after when_given_up q i ≡ false
unfolding in_flight_after
none_given_up q i = refl

-- the check of an acknowledgement that is taken
pub acknowledged_waits : (p : ℕ) (m s room : List ℕ) → first_failed (message_checks p m s (length room)) ≡ 0 → is_command s ≡ false → waiting m ≡ true
unfolding message_checks
acknowledged_waits p m s room e c =
    let known = first-passed 3 _ _ (first-passed 2 _ _ (first-passed 1 _ _ (first-passed 0 _ _ e).1).1).1 in
    let idle = first-passed 7 _ _ (first-passed 5 _ _ (first-passed 4 _ _ known.1).1).1 in
    implied _ _ idle.0 (rw c at known.0)

pub message-sound : (p : ℕ) (m s room : List ℕ) → sound m ≡ true → sound (message p m s room).memory ≡ true
unfolding message
message-sound p m s room h =
    call-memory IsSound (message_checks p m s (length room)) _ m room h
    (λ e.
    handled_either p IsSound m s (λ c. after-sound p m (ops_of p s) h)
    (λ c. idled_sound when_acknowledged m none_acknowledged h (acknowledged_waits p m s room e c)))

-- ---- a local value

local_marks : (q s d o : Bool) → implies q (s && o) ≡ true → o ≡ true → implies (q || (s && d)) (s && o) ≡ true
unfolding implies
local_marks true s d o e h = e
local_marks false true true o e h = h
local_marks false true false o e h = refl
local_marks false false d o e h = refl

pub local_held : (r : Row) (v : List ℕ) → (not (nonempty v) || permits r v) ≡ true
    → (cond (nonempty v) (permits r v) (eqb (length v) 0) ≡ true) × (length v ≤ r.most)
local_held r [] e = (refl, omega arith)
local_held r (x ∷ v) e = (e, permits-most r (x ∷ v) e)

pub commit_not_port : by_port (row_at commit).owner ≡ false
unfolding by_port row_at rows
commit_not_port = refl

-- what the check of a local value says where it passes
pub record Local (n : ℕ) (v : List ℕ) : Type 0 where
  pub in_table : place n < entry_count
  pub by_the_port : by_port (row_at (place n)).owner ≡ true
  pub allowed : (not (nonempty v) || permits (row_at (place n)) v) ≡ true

pub local_opened : (n : ℕ) (v : List ℕ) → local_permitted n v ≡ true → Local n v
unfolding local_permitted
local_opened n v e = record { in_table = ltb-true _ _ (every_at _ 0 e); by_the_port = every_at _ 1 e; allowed = every_at _ 2 e }

local_sound : (m : List ℕ) (n : ℕ) (v : List ℕ) → sound m ≡ true → Local n v → sound (local_memory m (place n) v) ≡ true
unfolding local_memory
local_sound m n v s l =
    let S = opened m s in
    let k = place n in
    let hk = l.in_table in
    let h = local_held (row_at k) v l.allowed in
    let r = marks_of m k S hk in
    put-sound m k (nonempty v) (subscribed m k) (pending m k || (subscribed m k && differs m k v)) (in_flight m k) v S hk h.1 (inr l.by_the_port)
    record { due = local_marks _ (subscribed m k) (differs m k v) _ r.due l.by_the_port; out = r.out }
    h.0
    (λ e. absurd (false≢true (sym commit_not_port ∙ ap (λ (j : ℕ). by_port (row_at j).owner) (sym e) ∙ l.by_the_port)))

pub local_value-sound : (p : ℕ) (m : List ℕ) (n : ℕ) (v : List ℕ) → sound m ≡ true → sound (local_value p m n v).memory ≡ true
unfolding local_value local_checks
local_value-sound p m n v s =
    call-memory IsSound (local_checks p m n v) _ m [] s
    (λ e. local_sound m n v s (local_opened n v (first-passed 11 _ _ (first-passed 0 _ _ e).1).0))

-- ---- a notification, an expiry, making it fresh

-- the timer set to wait
pub waits_sound : (m : List ℕ) (n : ℕ) → sound m ≡ true → n ≤ 4 → sound (set_timer m 1 n) ≡ true
waits_sound m n s h = set_timer-sound m 1 n (opened m s) (timer-waiting n h) (λ j hj e. refl)

pub waits_now : (m : List ℕ) (n : ℕ) → Sound m → waiting (set_timer m 1 n) ≡ true
unfolding waiting
waits_now m n S = rw (timer-set_timer m 1 n S.long)

pub build-sound : (p : ℕ) (m room : List ℕ) → sound m ≡ true → sound (build p m room).memory ≡ true
unfolding build
build-sound p m room s =
    call-memory IsSound (build_checks p m (length room)) _ m room s
    (λ e. (turned_to when_sent entry_count (set_timer m 1 0) (omega arith) (waits_sound m 0 s (omega arith)) (waits_now m 0 (opened m s))).is_sound)

abbrev again_or : List ℕ → Bool → Outcome
again_or m b = cond b (number_only 20 (set_timer m 1 (expiries m + 1)) []) (number_only 21 (idled when_given_up m) [])

-- expiries 1 to 4 send again, the fifth gives up
pub expired_again : (m : List ℕ) → expiries m < 4 → expired m ≡ number_only 20 (set_timer m 1 (expiries m + 1)) []
unfolding expired
expired_again m h = ap (again_or m) (lt-ltb (expiries m) 4 h)

pub expired_last : (m : List ℕ) → 4 ≤ expiries m → expired m ≡ number_only 21 (idled when_given_up m) []
unfolding expired
expired_last m h = ap (again_or m) (le-ltb (expiries m) 4 h)

-- what holds of both holds of an expiry
pub expired_either : (P : Outcome → Type 0) (m : List ℕ) → (expiries m < 4 → P (number_only 20 (set_timer m 1 (expiries m + 1)) [])) → P (number_only 21 (idled when_given_up m) [])
    → P (expired m)
expired_either P m f g = go (dec_le 4 (expiries m))
  where
    go : Dec (4 ≤ expiries m) → P (expired m)
    go (yes h) = rw (expired_last m h) g
    go (no h) = rw (expired_again m (omega arith)) (f (omega arith))

pub expiry-sound : (p : ℕ) (m : List ℕ) → sound m ≡ true → sound (expiry p m).memory ≡ true
unfolding expiry expiry_checks
expiry-sound p m s =
    call-memory IsSound (expiry_checks p m) (expired m) m [] s
    (λ e.
    expired_either (λ o. IsSound o.memory) m
    (λ h. waits_sound m (expiries m + 1) s (omega arith))
    (idled_sound when_given_up m none_given_up s (first-passed 7 _ _ (first-passed 0 _ _ e).1).0))

-- from any memory, of any content
pub make_fresh-sound : (m : List ℕ) → length m ≡ memory_length → sound (make_fresh m).memory ≡ true
unfolding make_fresh call when_passed first_failed
make_fresh-sound m h = simp (eq-eqb _ _ h) fresh-sound
