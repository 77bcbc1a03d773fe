-- Nothing that was told is lost (RULES 14.14): from a build on, whatever calls come but an acknowledgement, an unsubscribe of the name and making fresh,
-- each name of the notification is in flight or pending, and once it is given up it is pending and told by the next build.
use Prim.Native.Nat.{ℕ, ◌≤◌, ◌<◌}
use native.Mathlib.Omega.{arith}
use native.Mathlib.Decide.{ℕ_discrete}
use mathlib.Core.Path.{◌≡◌, refl, sym, ap, ◌∙◌}
use mathlib.Core.Logic.{◌⊎◌, inl, inr}
use mathlib.Core.Bool.{Bool, true, false, ◌&&◌, ◌||◌, not, false≢true}
use mathlib.Core.List.{List, [], ◌∷◌, ◌++◌}
use lib.ListN.{length}
use lib.Dec.{eqb}
use borrow.Author.Tests.{eq-eqb}
use Rattle.meaning.specs.Octets.{zeros}
use Rattle.meaning.specs.Table.{row_at, place, entry_count}
use Rattle.meaning.specs.Memory.{waiting, pending, in_flight, sound, fresh}
use Rattle.meaning.specs.Profile.{listed, release18, sound_in}
use Rattle.meaning.specs.Operation.{Op, capabilities, read, set, subscribe, unsubscribe, selective_read, selective_subscribe, selective_unsubscribe, delete_entry}
use Rattle.meaning.specs.Step.{step, after, subscribe_memory, unsubscribe_memory}
use Rattle.meaning.specs.Calls.{is_acknowledgement, ops_of, message_checks, message, local_memory, local_checks, local_value, build, expiry}
use Rattle.meaning.proofs.All.{all}
use Rattle.meaning.proofs.Tests.{and_left, and_right, and_both, or_left, or_right, neither, denied, first-passed}
use Rattle.meaning.proofs.Places.{listed-place}
use Rattle.meaning.proofs.Bounded.{message_in, local_value_in, build_in_lem, expiry_in}
use Rattle.meaning.proofs.Profiles.{in_sound}
use Rattle.meaning.proofs.Turned.{SameMarks}
use Rattle.meaning.proofs.Checked.{call-memory}
use Rattle.meaning.proofs.Kept.{step-sound, Local, local_opened, handled_either}
use Rattle.meaning.proofs.Marks.{set_marks_lem, subscribe_marks, subscribe_others, unsubscribe_others, unlisted_nothing, local_marks_after, local_marks_others}
use Rattle.meaning.proofs.Given.{name_at_lem}
use Rattle.meaning.proofs.Accepted.{message-passed}
use Rattle.meaning.proofs.Refused.{OfExpiry, build-refused, expiry-number, expiry-refused}
use Rattle.meaning.proofs.Timer.{build_does, build_leaves}
use Rattle.meaning.proofs.Sendings.{Call, refresh, take_message, take_value, build_in, take_expiry, gives, after_calls, ends, unacknowledged, expiries_in, sent_five_times, before, between, such_calls}
use Rattle.meaning.proofs.Flights.{none_while_idle, build_idle, again_marks, given_up_leaves}
use Rattle.meaning.proofs.Told.{tells, build_tells, reports_some}

-- ---- the statement

-- a change of the name at place k that the controller may not have heard of
abbrev pub Untold : List ℕ → ℕ → Type 0
Untold m k = (in_flight m k ≡ true) ⊎ (pending m k ≡ true)

-- whether an operation unsubscribes a name, and whether one of some does
unfoldable pub releases : ℕ → Op → Bool
releases n capabilities = false
releases n (read k) = false
releases n (set k v) = false
releases n (subscribe k) = false
releases n (unsubscribe k) = eqb k n
releases n (selective_read k v) = false
releases n (selective_subscribe k v) = false
releases n (selective_unsubscribe k v) = false
releases n (delete_entry k v) = false

unfoldable pub unsubscribes : ℕ → List Op → Bool
unsubscribes n [] = false
unsubscribes n (o ∷ os) = releases n o || unsubscribes n os

-- the calls that may let a name go: making fresh, a message of type 04, one that unsubscribes it
unfoldable pub lets_go : (p : ℕ) → ℕ → Call → Bool
lets_go p n refresh = true
lets_go p n (take_message s room) = is_acknowledgement s || unsubscribes n (ops_of p s)
lets_go p n (take_value k v) = false
lets_go p n (build_in room) = false
lets_go p n take_expiry = false

-- some calls without such
unfoldable pub holds_on : (p : ℕ) → ℕ → List Call → Bool
holds_on p n [] = true
holds_on p n (c ∷ cs) = not (lets_go p n c) && holds_on p n cs

-- at every moment: before the calls, between them and behind them
abbrev pub AlwaysUntold : (p : ℕ) → List ℕ → ℕ → List Call → Type 0
AlwaysUntold p m k [] = Untold m k
AlwaysUntold p m k (c ∷ cs) = Untold m k × AlwaysUntold p (gives p m c).memory k cs

-- of the name at place k, which the memory m has still to tell or to have acknowledged, after some calls
pub record NotLost (p : ℕ) (m : List ℕ) (k : ℕ) (cs : List Call) : Type 0 where
  pub always : AlwaysUntold p m k cs
  pub once_given_up : (expiry p (after_calls p m cs)).number ≡ 21 → pending (expiry p (after_calls p m cs)).memory k ≡ true
  pub while_idle : waiting (after_calls p m cs) ≡ false → pending (after_calls p m cs) k ≡ true
  pub told_again : waiting (after_calls p m cs) ≡ false → (room : List ℕ) → 1600 ≤ length room
      → ((build p (after_calls p m cs) room).number ≡ 0) × (tells (build p (after_calls p m cs) room).written (row_at k).name ≡ true)

-- ---- an operation

-- in flight and pending as they were
abbrev Same : List ℕ → List ℕ → ℕ → Type 0
Same m m' k = (in_flight m' k ≡ in_flight m k) × (pending m' k ≡ pending m k)

marks_same : (m m' : List ℕ) (k : ℕ) → SameMarks m m' k → Same m m' k
marks_same m m' k e = (e.flight, e.pendency)

still : (m m' : List ℕ) (k : ℕ) → Same m m' k → Untold m k → Untold m' k
still m m' k e (inl u) = inl (e.0 ∙ u)
still m m' k e (inr u) = inr (e.1 ∙ u)

subscribe-same : (p : ℕ) (m : List ℕ) (n k : ℕ) → sound m ≡ true → k < entry_count → Same m (subscribe_memory p m n) k
subscribe-same p m n k s hk = go (listed p n) refl
  where
    at : listed p n ≡ true → Dec (k ≡ place n) → Same m (subscribe_memory p m n) k
    at l (yes y) = rw y (let e = subscribe_marks p m n s l in (e.flight, e.pendency))
    at l (no ne) = marks_same m _ k (subscribe_others p m n s l k ne)

    go : (b : Bool) → listed p n ≡ b → Same m (subscribe_memory p m n) k
    go true l = at l (ℕ_discrete k (place n))
    go false l = rw (unlisted_nothing p m n l).0 (refl, refl)

unsubscribe-same : (p : ℕ) (m : List ℕ) (n k : ℕ) → sound m ≡ true → k < entry_count → eqb n (row_at k).name ≡ false → Same m (unsubscribe_memory p m n) k
unsubscribe-same p m n k s hk d = go (listed p n) refl
  where
    go : (b : Bool) → listed p n ≡ b → Same m (unsubscribe_memory p m n) k
    go true l = marks_same m _ k (unsubscribe_others p m n s l k (λ y. false≢true (sym d ∙ eq-eqb n (row_at k).name (name_at_lem n k (listed-place p n l) (sym y)))))
    go false l = rw (unlisted_nothing p m n l).1 (refl, refl)

step_same : (p : ℕ) (m : List ℕ) (o : Op) (k : ℕ) → sound m ≡ true → k < entry_count → releases (row_at k).name o ≡ false → Same m (step p m o) k
unfolding step releases
step_same p m capabilities k s hk d = (refl, refl)
step_same p m (read n) k s hk d = (refl, refl)
step_same p m (set n v) k s hk d = marks_same m _ k (set_marks_lem p m n v s k hk)
step_same p m (subscribe n) k s hk d = subscribe-same p m n k s hk
step_same p m (unsubscribe n) k s hk d = unsubscribe-same p m n k s hk d
step_same p m (selective_read n v) k s hk d = (refl, refl)
step_same p m (selective_subscribe n v) k s hk d = (refl, refl)
step_same p m (selective_unsubscribe n v) k s hk d = (refl, refl)
step_same p m (delete_entry n v) k s hk d = (refl, refl)

after_untold : (p : ℕ) (m : List ℕ) (os : List Op) (k : ℕ) → sound m ≡ true → k < entry_count → unsubscribes (row_at k).name os ≡ false → Untold m k → Untold (after p m os) k
unfolding after unsubscribes
after_untold p m [] k s hk d u = u
after_untold p m (o ∷ os) k s hk d u =
    let e = neither (releases (row_at k).name o) _ d in
    after_untold p (step p m o) os k (step-sound p m o s) hk e.1 (still m (step p m o) k (step_same p m o k s hk e.0) u)

-- ---- a call

message_untold : (p : ℕ) (m s room : List ℕ) (k : ℕ) → sound m ≡ true → k < entry_count → is_acknowledgement s ≡ false → unsubscribes (row_at k).name (ops_of p s) ≡ false
    → Untold m k → Untold (message p m s room).memory k
unfolding message
message_untold p m s room k h hk a d u =
    call-memory (λ m'. Untold m' k) (message_checks p m s (length room)) _ m room u
    (λ e.
    handled_either p (λ m'. Untold m' k) m s (λ c. after_untold p m (ops_of p s) k h hk d u)
    (λ c. absurd (false≢true (rw (c, a) at (message-passed p m s (length room) e).known))))

local_untold : (p : ℕ) (m : List ℕ) (n : ℕ) (v : List ℕ) (k : ℕ) → sound m ≡ true → k < entry_count → Untold m k → Untold (local_value p m n v).memory k
unfolding local_value local_checks
local_untold p m n v k s hk u =
    call-memory (λ m'. Untold m' k) (local_checks p m n v) _ m [] u
    (λ e. at (local_opened n v (first-passed 11 _ _ (first-passed 0 _ _ e).1).0) (ℕ_discrete k (place n)) u)
  where
    at : Local n v → Dec (k ≡ place n) → Untold m k → Untold (local_memory m (place n) v) k
    at l (no ne) w = still m _ k (marks_same m _ k (local_marks_others m n v s l k hk ne)) w
    at l (yes y) (inl w) = inl (ap (in_flight (local_memory m (place n) v)) y ∙ (local_marks_after m n v s l).flight ∙ ap (in_flight m) (sym y) ∙ w)
    at l (yes y) (inr w) =
        inr (ap (pending (local_memory m (place n) v)) y ∙ (local_marks_after m n v s l).pendency ∙ or_left _ _ (ap (pending m) (sym y) ∙ w))

build_untold : (p : ℕ) (m room : List ℕ) (k : ℕ) → sound m ≡ true → k < entry_count → Untold m k → Untold (build p m room).memory k
build_untold p m room k s hk u = go (ℕ_discrete (build p m room).number 0) u
  where
    go : Dec ((build p m room).number ≡ 0) → Untold m k → Untold (build p m room).memory k
    go (no ne) w = rw (build-refused p m room (omega arith)).same_memory w
    go (yes z) (inr w) = inl ((build_leaves p m room z).now_in_flight k hk ∙ w)
    go (yes z) (inl w) = absurd (false≢true (sym (none_while_idle m s (build_idle p m room z).1 k hk) ∙ w))

either : (m : List ℕ) (k : ℕ) → Untold m k → (pending m k || in_flight m k) ≡ true
either m k (inl w) = or_right (pending m k) _ w
either m k (inr w) = or_left _ _ w

expiry_untold : (p : ℕ) (m : List ℕ) (k : ℕ) → sound m ≡ true → k < entry_count → Untold m k → Untold (expiry p m).memory k
expiry_untold p m k s hk u = go (expiry-number p m)
  where
    go : OfExpiry (expiry p m) → Untold (expiry p m).memory k
    go (inl e) = rw (expiry-refused p m (omega arith) (omega arith)).same_memory u
    go (inr (inl e)) = rw (expiry-refused p m (omega arith) (omega arith)).same_memory u
    go (inr (inr (inl e))) = still m (expiry p m).memory k (marks_same m _ k (again_marks p m e k hk)) u
    go (inr (inr (inr e))) = inr ((given_up_leaves p m e).pendencies k hk ∙ either m k u)

gives_untold : (p : ℕ) (m : List ℕ) (c : Call) (k : ℕ) → sound_in p m ≡ true → k < entry_count → lets_go p (row_at k).name c ≡ false → Untold m k
    → (sound_in p (gives p m c).memory ≡ true) × Untold (gives p m c).memory k
unfolding gives lets_go
gives_untold p m refresh k s hk d u = absurd (false≢true (sym d))
gives_untold p m (take_message t room) k s hk d u =
    let e = neither (is_acknowledgement t) _ d in
    (message_in p m t room s, message_untold p m t room k (in_sound p m s) hk e.0 e.1 u)
gives_untold p m (take_value n v) k s hk d u = (local_value_in p m n v s, local_untold p m n v k (in_sound p m s) hk u)
gives_untold p m (build_in room) k s hk d u = (build_in_lem p m room s, build_untold p m room k (in_sound p m s) hk u)
gives_untold p m take_expiry k s hk d u = (expiry_in p m s, expiry_untold p m k (in_sound p m s) hk u)

-- ---- calls one after another

record Carried (p : ℕ) (m : List ℕ) (k : ℕ) (cs : List Call) : Type 0 where
  always : AlwaysUntold p m k cs
  is_sound : sound_in p (after_calls p m cs) ≡ true
  last : Untold (after_calls p m cs) k

carried : (p : ℕ) (m : List ℕ) (k : ℕ) (cs : List Call) → sound_in p m ≡ true → k < entry_count → Untold m k → holds_on p (row_at k).name cs ≡ true → Carried p m k cs
unfolding after_calls holds_on
carried p m k [] s hk u h = record { always = u; is_sound = s; last = u }
carried p m k (c ∷ cs) s hk u h =
    let e = gives_untold p m c k s hk (denied (lets_go p (row_at k).name c) (and_left _ _ h)) u in
    let r = carried p (gives p m c).memory k cs e.0 hk e.1 (and_right (not (lets_go p (row_at k).name c)) _ h) in
    record { always = (u, r.always); is_sound = r.is_sound; last = r.last }

idle_pending : (m : List ℕ) (k : ℕ) → sound m ≡ true → k < entry_count → waiting m ≡ false → Untold m k → pending m k ≡ true
idle_pending m k s hk w (inl u) = absurd (false≢true (sym (none_while_idle m s w k hk) ∙ u))
idle_pending m k s hk w (inr u) = u

-- a build of what is pending is done while idle, and tells it
pub pending-told-next : (p : ℕ) (m room : List ℕ) (k : ℕ) → sound_in p m ≡ true → k < entry_count → waiting m ≡ false → pending m k ≡ true → 1600 ≤ length room
    → ((build p m room).number ≡ 0) × (tells (build p m room).written (row_at k).name ≡ true)
pending-told-next p m room k s hk w e h =
    let b = build_does p m room s h w (reports_some p m entry_count k hk e) in
    let z : (build p m room).number ≡ 0 = rw b in
    (z, build_tells p m room k hk z ∙ e)

-- of whatever is in flight or pending in sound memory
pub nothing_lost : (p : ℕ) (m : List ℕ) (k : ℕ) (cs : List Call) → sound_in p m ≡ true → k < entry_count → Untold m k → holds_on p (row_at k).name cs ≡ true → NotLost p m k cs
nothing_lost p m k cs s hk u h =
    let l = after_calls p m cs in
    let r = carried p m k cs s hk u h in
    let idle : waiting l ≡ false → pending l k ≡ true = λ w. idle_pending l k (in_sound p l r.is_sound) hk w r.last in
    record {
      always = r.always;
      once_given_up = λ e. (given_up_leaves p l e).pendencies k hk ∙ either l k r.last;
      while_idle = idle;
      told_again = λ w room long. pending-told-next p l room k r.is_sound hk w (idle w) long;
    }

-- so of each name that a notification tells, from its build on
pub told_not_lost : (p : ℕ) (m room : List ℕ) (k : ℕ) (cs : List Call) → sound_in p m ≡ true → k < entry_count → (build p m room).number ≡ 0
    → tells (build p m room).written (row_at k).name ≡ true → holds_on p (row_at k).name cs ≡ true → NotLost p (build p m room).memory k cs
told_not_lost p m room k cs s hk e t h =
    nothing_lost p (build p m room).memory k cs (build_in_lem p m room s) hk
    (inl ((build_leaves p m room e).now_in_flight k hk ∙ sym (build_tells p m room k hk e) ∙ t))
    h

holds_append : (p n : ℕ) (cs : List Call) → holds_on p n cs ≡ true → holds_on p n (cs ++ (take_expiry ∷ [])) ≡ true
unfolding holds_on lets_go
holds_append p n [] h = refl
holds_append p n (c ∷ cs) h =
    and_both {a = not (lets_go p n c)} (and_left (not (lets_go p n c)) (holds_on p n cs) h) (holds_append p n cs (and_right (not (lets_go p n c)) _ h))

-- ---- a lost modem: sent five times and given up, it is told again by the next build

holds_unacknowledged : (p n : ℕ) (cs : List Call) → holds_on p n cs ≡ true → unacknowledged cs ≡ true
unfolding holds_on unacknowledged lets_go ends
holds_unacknowledged p n [] h = refl
holds_unacknowledged p n (c ∷ cs) h = and_both (go c (denied (lets_go p n c) (and_left _ _ h))) (holds_unacknowledged p n cs (and_right (not (lets_go p n c)) _ h))
  where
    go : (d : Call) → lets_go p n d ≡ false → not (ends d) ≡ true
    go refresh e = absurd (false≢true (sym e))
    go (take_message s room) e = ap not (neither (is_acknowledgement s) _ e).0
    go (take_value k v) e = refl
    go (build_in room) e = refl
    go take_expiry e = refl

pub lost_modem : (p : ℕ) (m room : List ℕ) (k : ℕ) (cs : List Call) → sound_in p m ≡ true → k < entry_count → (build p m room).number ≡ 0
    → tells (build p m room).written (row_at k).name ≡ true → holds_on p (row_at k).name cs ≡ true → expiries_in cs ≡ 4
    → let l = after_calls p m ((build_in room ∷ cs) ++ (take_expiry ∷ [])) in
    (pending l k ≡ true) × ((again : List ℕ) → 1600 ≤ length again → ((build p l again).number ≡ 0) × (tells (build p l again).written (row_at k).name ≡ true))
unfolding after_calls gives
lost_modem p m room k cs s hk e t h n =
    let five = sent_five_times p m room cs e (holds_unacknowledged p (row_at k).name cs h) n in
    let r = told_not_lost p m room k (cs ++ (take_expiry ∷ [])) s hk e t (holds_append p (row_at k).name cs h) in
    (r.while_idle five.idle.waits, λ again long. r.told_again five.idle.waits again long)

-- such calls there are: those of `sent_five_times`, in which Tick granularity is told, changes, and is not let go
pub such_calls_hold : (tells (build release18 (after_calls release18 fresh before) (zeros 1600)).written (row_at 6).name ≡ true) × (holds_on release18 0x0008 between ≡ true)
unfolding all gives after_calls before between holds_on lets_go releases unsubscribes
such_calls_hold = (build_tells release18 (after_calls release18 fresh before) (zeros 1600) 6 (omega arith) such_calls.0 ∙ refl, refl)
