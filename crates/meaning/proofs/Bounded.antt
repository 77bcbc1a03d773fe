-- Sound memory of a profile is sound in that profile again after each operation and each call (RULES 5.15, 24.10).
use Prim.Native.Nat.{ℕ, zero, suc, ◌+◌, ◌%◌, ◌≤◌, ◌<◌}
use native.Mathlib.Omega.{arith}
use native.Mathlib.Decide.{ℕ_discrete}
use mathlib.Core.Path.{◌≡◌, refl, sym, ap, ◌∙◌}
use mathlib.Core.Logic.{◌≢◌}
use mathlib.Core.Bool.{Bool, true, false, ◌&&◌, not, cond, false≢true}
use mathlib.Core.List.{List, [], ◌∷◌, ◌++◌}
use lib.ListN.{length, length-append}
use lib.Dec.{ltb}
use borrow.Author.Tests.{leb-true, le-leb, eqb-true}
use Rattle.meaning.specs.Octets.{every}
use Rattle.meaning.specs.Checks.{first_failed}
use Rattle.meaning.specs.Table.{row_at, rows, by_port, place, entry_count, admin_base_time, admin_control_list_length, admin_control_list, admin_cycle_time, supported_list_max, commit}
use Rattle.meaning.specs.Block.{joined_block, list_ok, keeps, permits}
use Rattle.meaning.specs.Memory.{subscribed, body, sound, waiting, expiries, set_timer, fresh}
use Rattle.meaning.specs.Profile.{is_release16, lists, listed, spared, in_memory, sendable, bounded, sound_in}
use Rattle.meaning.specs.Operation.{Op, capabilities, read, set, subscribe, unsubscribe, selective_read, selective_subscribe, selective_unsubscribe, delete_entry}
use Rattle.meaning.specs.Step.{block, permitted, set_checks, stored, set_memory, subscribe_memory, unsubscribe_memory, step, after}
use Rattle.meaning.specs.Calls.{Moment, when_acknowledged, when_given_up, turned, ops_of, message_checks, message, local_memory, local_checks, local_value, build_checks, build, expired, expiry_checks, expiry}
use Rattle.meaning.proofs.All.{all}
use Rattle.meaning.proofs.Tests.{and_left, and_right, and_both, denied, implies_of, implied, every_at, first-passed}
use Rattle.meaning.proofs.Values.{permits_opened}
use Rattle.meaning.proofs.Places.{cell-set_timer}
use Rattle.meaning.proofs.Profiles.{memory-length, in_sound, in_bounded, sound_in_lem}
use Rattle.meaning.proofs.Sound.{opened, body-set_timer}
use Rattle.meaning.proofs.Turned.{cell_marks, turned_to}
use Rattle.meaning.proofs.Checked.{call-memory, set_fails}
use Rattle.meaning.proofs.Kept.{fresh-sound, settable, Local, local_opened, idled, handled_either, acknowledged_waits, expired_either, waits_sound, waits_now, step-sound, message-sound, local_value-sound, build-sound, expiry-sound}
use Rattle.meaning.proofs.Marks.{set_marks_lem, subscribe_others, unsubscribe_others, subscribe_leaves, unsubscribe_leaves, unlisted_nothing, local_marks_others}
use Rattle.meaning.proofs.Answered.{body-length}
use Rattle.meaning.proofs.Stored.{set_leaves, local_leaves}

-- ---- the bounds, one by one

pub record Bounds (m : List ℕ) : Type 0 where
  pub list : length (body m admin_control_list) ≤ 252
  pub runs : length (body m commit) ≤ 274
  pub unmarked : subscribed m supported_list_max ≡ false

pub bounds : (p : ℕ) (m : List ℕ) → bounded p m ≡ true → is_release16 p ≡ true → Bounds m
unfolding bounded
bounds p m e r =
    let b = implied _ _ e r in
    record { list = leb-true _ _ (every_at _ 0 b); runs = leb-true _ _ (every_at _ 1 b); unmarked = denied _ (every_at _ 2 b) }

pub within_bounds : (p : ℕ) (m : List ℕ) → (is_release16 p ≡ true → Bounds m) → bounded p m ≡ true
unfolding bounded every
within_bounds p m f =
    implies_of _ _ (λ r. let b = f r in and_both (le-leb _ _ b.list) (and_both (le-leb _ _ b.runs) (and_both (ap not b.unmarked) refl)))

pub bounded_18 : (p : ℕ) (m : List ℕ) → is_release16 p ≡ false → bounded p m ≡ true
bounded_18 p m e = within_bounds p m (λ r. absurd (false≢true (sym e ∙ r)))

-- what they speak of is as it was
record Same (m m' : List ℕ) : Type 0 where
  list : body m' admin_control_list ≡ body m admin_control_list
  runs : body m' commit ≡ body m commit
  mark : subscribed m' supported_list_max ≡ subscribed m supported_list_max

same-bounded : (p : ℕ) (m m' : List ℕ) → Same m m' → bounded p m ≡ true → bounded p m' ≡ true
unfolding bounded
same-bounded p m m' s b = rw (s.list, s.runs, s.mark) b

-- ---- a set

-- only the length of a list is kept shorter on the wire
list_not_spared : (p : ℕ) → spared p admin_control_list ≡ 0
unfolding spared
list_not_spared p = go (is_release16 p)
  where
    go : (b : Bool) → ◌≡◌ {A = ℕ} (cond (b && false) 2 0) 0
    go true = refl
    go false = refl

-- a list of whole entries that stands in 255 octets
list-short : (p : ℕ) (v : List ℕ) → is_release16 p ≡ true → sendable p v ≡ true → permits (row_at admin_control_list) (in_memory p admin_control_list v) ≡ true
    → length (in_memory p admin_control_list v) ≤ 252
unfolding sendable row_at rows keeps list_ok
list-short p v r h e =
    let w = in_memory p admin_control_list v in
    let s = eqb-true (length w % 7) 0 (and_left _ _ (permits_opened (row_at admin_control_list) w e).2) in
    omega (arith, s, leb-true (length v) 255 (implied _ _ h r), memory-length p admin_control_list v, list_not_spared p)

block-short : (m : List ℕ) → Bounds m → length (block m) ≤ 274
unfolding block joined_block row_at rows
block-short m b =
    let base = body m admin_base_time in
    let count = body m admin_control_list_length in
    let list = body m admin_control_list in
    let ratio = body m admin_cycle_time in
    omega (arith, length-append base (count ++ (list ++ ratio)), length-append count (list ++ ratio), length-append list ratio, body-length m admin_base_time, body-length m admin_control_list_length, body-length m admin_cycle_time, b.list)

set-bounded : (p : ℕ) (m : List ℕ) (n : ℕ) (v : List ℕ) → sound_in p m ≡ true → bounded p (set_memory p m n v) ≡ true
unfolding step
set-bounded p m n v s = go (first_failed (set_checks p m n v)) refl
  where
    stored-list : first_failed (set_checks p m n v) ≡ 0 → is_release16 p ≡ true → place n ≡ admin_control_list → length (stored p m (place n) v) ≤ 252
    stored-list e r q =
        let t = settable p m n v e in
        let a = t.allowed in
        unfold permitted stored in rw q (list-short p v r t.answerable (rw q at a))

    stored-block : is_release16 p ≡ true → place n ≡ commit → length (stored p m (place n) v) ≤ 274
    stored-block r q = unfold stored in rw q (block-short m (bounds p m (in_bounded p m s) r))

    done : first_failed (set_checks p m n v) ≡ 0 → is_release16 p ≡ true → Dec (admin_control_list ≡ place n) → Dec (commit ≡ place n) → Bounds (set_memory p m n v)
    done e r l c =
        let h = set_leaves p m n v (in_sound p m s) e in
        let b = bounds p m (in_bounded p m s) r in
        record {
          list = elim l [
            | yes q ↦ rw (ap (body (set_memory p m n v)) q, h.value) (stored-list e r (sym q))
            | no ne ↦ rw (h.others admin_control_list (omega arith) ne).1 b.list
          ];
          runs = elim c [
            | yes q ↦ rw (ap (body (set_memory p m n v)) q, h.value) (stored-block r (sym q))
            | no ne ↦ rw (h.others commit (omega arith) ne).1 b.runs
          ];
          unmarked = (set_marks_lem p m n v (in_sound p m s) supported_list_max (omega arith)).subscription ∙ b.unmarked;
        }

    go : (f : ℕ) → first_failed (set_checks p m n v) ≡ f → bounded p (set_memory p m n v) ≡ true
    go zero e = within_bounds p _ (λ r. done e r (ℕ_discrete admin_control_list (place n)) (ℕ_discrete commit (place n)))
    go (suc f) e = rw (set_fails p m n v f e) (in_bounded p m s)

-- ---- marks: the name that is not listed is not marked

unlisted_place : (p n : ℕ) → listed p n ≡ true → is_release16 p ≡ true → supported_list_max ≢ place n
unfolding listed lists
unlisted_place p n e r q =
    let h = and_right (ltb (place n) entry_count) _ e in
    false≢true (rw (r, sym q) at h)

-- the marks of a listed name change, or nothing does
marks_bounded : (p : ℕ) (m m' : List ℕ) (n : ℕ) → sound_in p m ≡ true
    → (listed p n ≡ true → ((k : ℕ) → k < entry_count → body m' k ≡ body m k) × (supported_list_max ≢ place n → subscribed m' supported_list_max ≡ subscribed m supported_list_max))
    → (listed p n ≡ false → m' ≡ m) → bounded p m' ≡ true
marks_bounded p m m' n s f g = go (listed p n) refl
  where
    go : (b : Bool) → listed p n ≡ b → bounded p m' ≡ true
    go true e =
        within_bounds p m'
        (λ r.
        let b = bounds p m (in_bounded p m s) r in
        record {
          list = rw ((f e).0 admin_control_list (omega arith)) b.list;
          runs = rw ((f e).0 commit (omega arith)) b.runs;
          unmarked = (f e).1 (unlisted_place p n e r) ∙ b.unmarked;
        })
    go false e = rw (g e) (in_bounded p m s)

subscribe-bounded : (p : ℕ) (m : List ℕ) (n : ℕ) → sound_in p m ≡ true → bounded p (subscribe_memory p m n) ≡ true
subscribe-bounded p m n s =
    let h = in_sound p m s in
    marks_bounded p m _ n s (λ e. ((subscribe_leaves p m n h e).values, λ ne. (subscribe_others p m n h e supported_list_max ne).subscription)) (λ e. (unlisted_nothing p m n e).0)

unsubscribe-bounded : (p : ℕ) (m : List ℕ) (n : ℕ) → sound_in p m ≡ true → bounded p (unsubscribe_memory p m n) ≡ true
unsubscribe-bounded p m n s =
    let h = in_sound p m s in
    marks_bounded p m _ n s (λ e. ((unsubscribe_leaves p m n h e).values, λ ne. (unsubscribe_others p m n h e supported_list_max ne).subscription)) (λ e. (unlisted_nothing p m n e).1)

-- ---- every operation, and every list of them

step-bounded : (p : ℕ) (m : List ℕ) (o : Op) → sound_in p m ≡ true → bounded p (step p m o) ≡ true
unfolding step
step-bounded p m capabilities s = in_bounded p m s
step-bounded p m (read n) s = in_bounded p m s
step-bounded p m (set n v) s = set-bounded p m n v s
step-bounded p m (subscribe n) s = subscribe-bounded p m n s
step-bounded p m (unsubscribe n) s = unsubscribe-bounded p m n s
step-bounded p m (selective_read n v) s = in_bounded p m s
step-bounded p m (selective_subscribe n v) s = in_bounded p m s
step-bounded p m (selective_unsubscribe n v) s = in_bounded p m s
step-bounded p m (delete_entry n v) s = in_bounded p m s

pub step_in : (p : ℕ) (m : List ℕ) (o : Op) → sound_in p m ≡ true → sound_in p (step p m o) ≡ true
step_in p m o s = sound_in_lem p _ (step-sound p m o (in_sound p m s)) (step-bounded p m o s)

pub after_in : (p : ℕ) (m : List ℕ) (os : List Op) → sound_in p m ≡ true → sound_in p (after p m os) ≡ true
unfolding after
after_in p m [] s = s
after_in p m (o ∷ os) s = after_in p (step p m o) os (step_in p m o s)

-- ---- every call

timer-same : (m : List ℕ) (w n : ℕ) → sound m ≡ true → Same m (set_timer m w n)
timer-same m w n s =
    let S = opened m s in
    record {
      list = body-set_timer m w n S admin_control_list (omega arith);
      runs = body-set_timer m w n S commit (omega arith);
      mark = (cell_marks m _ supported_list_max (cell-set_timer m w n S.long supported_list_max (omega arith))).subscription;
    }

turned_same : (t : Moment) (m : List ℕ) → sound m ≡ true → waiting m ≡ true → Same m (turned t entry_count m)
turned_same t m s w =
    let T = turned_to t entry_count m (omega arith) s w in
    record {
      list = T.values admin_control_list (omega arith);
      runs = T.values commit (omega arith);
      mark = (T.marks supported_list_max (omega arith)).subscription;
    }

idled_bounded : (p : ℕ) (t : Moment) (m : List ℕ) → sound_in p m ≡ true → waiting m ≡ true → bounded p (idled t m) ≡ true
idled_bounded p t m s w =
    let z = in_sound p m s in
    let c = turned t entry_count m in
    same-bounded p c _ (timer-same c 0 0 (turned_to t entry_count m (omega arith) z w).is_sound) (same-bounded p m c (turned_same t m z w) (in_bounded p m s))

waits_bounded : (p : ℕ) (m : List ℕ) (n : ℕ) → sound_in p m ≡ true → bounded p (set_timer m 1 n) ≡ true
waits_bounded p m n s = same-bounded p m _ (timer-same m 1 n (in_sound p m s)) (in_bounded p m s)

pub message_in : (p : ℕ) (m s room : List ℕ) → sound_in p m ≡ true → sound_in p (message p m s room).memory ≡ true
unfolding message
message_in p m s room h =
    sound_in_lem p _ (message-sound p m s room (in_sound p m h))
    (call-memory (λ m'. bounded p m' ≡ true) (message_checks p m s (length room)) _ m room (in_bounded p m h)
    (λ e.
    handled_either p (λ m'. bounded p m' ≡ true) m s (λ c. in_bounded p _ (after_in p m (ops_of p s) h))
    (λ c. idled_bounded p when_acknowledged m h (acknowledged_waits p m s room e c))))

-- a name that the port sets is none of those
port-places : (n : ℕ) → by_port (row_at (place n)).owner ≡ true → (admin_control_list ≢ place n) × (supported_list_max ≢ place n) × (commit ≢ place n)
unfolding by_port row_at rows
port-places n e = (λ q. false≢true (rw (sym q) at e), λ q. false≢true (rw (sym q) at e), λ q. false≢true (rw (sym q) at e))

local_same : (m : List ℕ) (n : ℕ) (v : List ℕ) → sound m ≡ true → Local n v → Same m (local_memory m (place n) v)
local_same m n v s l =
    let h = local_leaves m n v s l in
    let a = port-places n l.by_the_port in
    record {
      list = (h.others admin_control_list (omega arith) a.0).1;
      runs = (h.others commit (omega arith) a.2).1;
      mark = (local_marks_others m n v s l supported_list_max (omega arith) a.1).subscription;
    }

pub local_value_in : (p : ℕ) (m : List ℕ) (n : ℕ) (v : List ℕ) → sound_in p m ≡ true → sound_in p (local_value p m n v).memory ≡ true
unfolding local_value local_checks
local_value_in p m n v s =
    sound_in_lem p _ (local_value-sound p m n v (in_sound p m s))
    (call-memory (λ m'. bounded p m' ≡ true) (local_checks p m n v) _ m [] (in_bounded p m s)
    (λ e. same-bounded p m _ (local_same m n v (in_sound p m s) (local_opened n v (first-passed 11 _ _ (first-passed 0 _ _ e).1).0)) (in_bounded p m s)))

pub build_in_lem : (p : ℕ) (m room : List ℕ) → sound_in p m ≡ true → sound_in p (build p m room).memory ≡ true
unfolding build
build_in_lem p m room s =
    let z = in_sound p m s in
    sound_in_lem p _ (build-sound p m room z)
    (call-memory (λ m'. bounded p m' ≡ true) (build_checks p m (length room)) _ m room (in_bounded p m s)
    (λ e. same-bounded p (set_timer m 1 0) _ (turned_same _ (set_timer m 1 0) (waits_sound m 0 z (omega arith)) (waits_now m 0 (opened m z))) (waits_bounded p m 0 s)))

pub expiry_in : (p : ℕ) (m : List ℕ) → sound_in p m ≡ true → sound_in p (expiry p m).memory ≡ true
unfolding expiry expiry_checks
expiry_in p m s =
    sound_in_lem p _ (expiry-sound p m (in_sound p m s))
    (call-memory (λ m'. bounded p m' ≡ true) (expiry_checks p m) (expired m) m [] (in_bounded p m s)
    (λ e.
    expired_either (λ o. bounded p o.memory ≡ true) m (λ h. waits_bounded p m (expiries m + 1) s)
    (idled_bounded p when_given_up m s (first-passed 7 _ _ (first-passed 0 _ _ e).1).0)))

-- fresh memory is sound in each profile
pub fresh_in : (p : ℕ) → sound_in p fresh ≡ true
fresh_in p = sound_in_lem p fresh fresh-sound (within_bounds p fresh (λ r. fresh_bounds))
  where
    fresh_bounds : Bounds fresh
    fresh_bounds = unfold all in record { list = omega arith; runs = omega arith; unmarked = refl }
