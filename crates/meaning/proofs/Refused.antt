-- Law 2: what a refusal leaves of memory and room (RULES 15.24, 15.25), what number 20 leaves (RULES 15.26), and what stays of the
-- room behind a reply or notification (RULES 2.6).
use Prim.Native.Nat.{ℕ, suc, ◌+◌, ◌≤◌, ◌<◌}
use native.Mathlib.Omega.{arith}
use native.Mathlib.Decide.{dec_le}
use mathlib.Core.Path.{◌≡◌, refl, sym, ap, ◌∙◌}
use mathlib.Core.Logic.{◌≢◌, ◌⊎◌, inl, inr}
use mathlib.Core.Bool.{true, false}
use mathlib.Core.List.{List, [], ◌++◌}
use lib.ListN.{length, drop}
use lib.Dec.{eqb}
use borrow.Author.Tests.{leb-true}
use Rattle.meaning.specs.Octets.{octet}
use Rattle.meaning.specs.Checks.{Checks, passed, check, first_failed}
use Rattle.meaning.specs.Table.{entry_count, timer_at, memory_length}
use Rattle.meaning.specs.Memory.{set_timer, expiries, fresh}
use Rattle.meaning.specs.Calls.{Outcome, done, number_only, call, handled, fits, message_checks, message, local_checks, local_value, notification, when_sent, turned, build_checks, build, expired, expiry_checks, expiry, make_fresh}
use Rattle.meaning.proofs.Lists.{octet-part}
use Rattle.meaning.proofs.Tests.{every_at, first-passed}
use Rattle.meaning.proofs.Places.{set_timer-length, part-set_timer}
use Rattle.meaning.proofs.Profiles.{in_sound}
use Rattle.meaning.proofs.Checked.{call_either}
use Rattle.meaning.proofs.Sound.{opened}
use Rattle.meaning.proofs.Kept.{expired_either}
use Rattle.meaning.proofs.Accepted.{message-passed, done-room}
use Rattle.meaning.proofs.Notified.{notification-most}

-- ---- the numbers

-- a number is one of some checks, or 0
abbrev pub Among : ℕ → Checks → Type 0
Among n passed = n ≡ 0
Among n (check k b cs) = (n ≡ k) ⊎ Among n cs

first_among : (cs : Checks) → Among (first_failed cs) cs
unfolding first_failed
first_among passed = refl
first_among (check k true cs) = inr (first_among cs)
first_among (check k false cs) = inl refl

pub call_among : (cs : Checks) (o : Outcome) (m room : List ℕ) → o.number ≡ 0 → Among (call cs o m room).number cs
call_among cs o m room z =
    call_either (λ r. Among r.number cs) cs o m room (λ e. rw (z, sym e) (first_among cs)) (λ f e. rw (sym e) (first_among cs))

-- every number of some checks is at most n
abbrev pub AtMost : ℕ → Checks → Type 0
AtMost n passed = Unit {0}
AtMost n (check k b cs) = (k ≤ n) × AtMost n cs

among_most : (n k : ℕ) (cs : Checks) → AtMost n cs → Among k cs → k ≤ n
among_most n k passed h e = omega arith
among_most n k (check i b cs) h (inl e) = omega (arith, h.0)
among_most n k (check i b cs) h (inr a) = among_most n k cs h.1 a

pub first-most : (n : ℕ) (cs : Checks) → AtMost n cs → first_failed cs ≤ n
first-most n cs h = among_most n (first_failed cs) cs h (first_among cs)

pub message-number : (p : ℕ) (m s room : List ℕ) → (message p m s room).number ≤ 8
unfolding message message_checks
message-number p m s room =
    let cs = message_checks p m s (length room) in
    let o = done (handled p m s).reply (handled p m s).memory room in
    among_most 8 (call cs o m room).number cs (omega arith) (call_among cs o m room refl)

pub local_value-number : (p : ℕ) (m : List ℕ) (n : ℕ) (v : List ℕ)
    → let k = (local_value p m n v).number in
    (k ≡ 1) ⊎ ((k ≡ 12) ⊎ (k ≡ 0))
unfolding local_value local_checks
local_value-number p m n v = call_among (local_checks p m n v) _ m [] refl

pub build-number : (p : ℕ) (m room : List ℕ)
    → let n = (build p m room).number in
    (n ≡ 1) ⊎ ((n ≡ 11) ⊎ ((n ≡ 10) ⊎ ((n ≡ 9) ⊎ (n ≡ 0))))
unfolding build build_checks
build-number p m room = call_among (build_checks p m (length room)) _ m room refl

pub make_fresh-number : (m : List ℕ)
    → let n = (make_fresh m).number in
    (n ≡ 1) ⊎ (n ≡ 0)
unfolding make_fresh
make_fresh-number m = call_among (check 1 (eqb (length m) memory_length) passed) (number_only 0 fresh []) m [] refl

-- 20 and 21 are an expiry's alone, and it has no 0
abbrev pub OfExpiry : Outcome → Type 0
OfExpiry o = (o.number ≡ 1) ⊎ ((o.number ≡ 8) ⊎ ((o.number ≡ 20) ⊎ (o.number ≡ 21)))

pub expiry-number : (p : ℕ) (m : List ℕ) → OfExpiry (expiry p m)
unfolding expiry expiry_checks
expiry-number p m =
    call_either OfExpiry (expiry_checks p m) (expired m) m []
    (λ e. inr (inr (expired_either (λ o. (o.number ≡ 20) ⊎ (o.number ≡ 21)) m (λ h. inl refl) (inr refl))))
    (λ f e. refused f (rw (sym e) (first_among (expiry_checks p m))))
  where
    refused : (f : ℕ) → Among (suc f) (expiry_checks p m) → OfExpiry (number_only (suc f) m [])
    refused f (inl e) = inl e
    refused f (inr (inl e)) = inr (inl e)
    refused f (inr (inr e)) = absurd (omega arith)

-- ---- a refusal

pub record Unchanged (o : Outcome) (m room : List ℕ) : Type 0 where
  pub nothing : o.written ≡ []
  pub same_memory : o.memory ≡ m
  pub same_room : o.room ≡ room

refusal : (cs : Checks) (o : Outcome) (m room : List ℕ) → (o.number ≡ 0) ⊎ (18 < o.number) → 1 ≤ (call cs o m room).number → (call cs o m room).number ≤ 18
    → Unchanged (call cs o m room) m room
refusal cs o m room d =
    call_either (λ r. 1 ≤ r.number → r.number ≤ 18 → Unchanged r m room) cs o m room (λ e. other d)
    (λ f e a b. record { nothing = refl; same_memory = refl; same_room = refl })
  where
    other : (o.number ≡ 0) ⊎ (18 < o.number) → 1 ≤ o.number → o.number ≤ 18 → Unchanged o m room
    other (inl z) a b = absurd (omega arith)
    other (inr z) a b = absurd (omega arith)

pub message-refused : (p : ℕ) (m s room : List ℕ) → 1 ≤ (message p m s room).number → Unchanged (message p m s room) m room
unfolding message
message-refused p m s room a =
    let u = refusal (message_checks p m s (length room)) _ m room (inl refl) a (omega (arith, message-number p m s room)) in
    record { nothing = u.nothing; same_memory = u.same_memory; same_room = u.same_room }

pub local_value-refused : (p : ℕ) (m : List ℕ) (n : ℕ) (v : List ℕ) → 1 ≤ (local_value p m n v).number → Unchanged (local_value p m n v) m []
unfolding local_value local_checks
local_value-refused p m n v a = refusal (local_checks p m n v) _ m [] (inl refl) a (among_most 18 _ (local_checks p m n v) (omega arith) (local_value-number p m n v))

pub build-refused : (p : ℕ) (m room : List ℕ) → 1 ≤ (build p m room).number → Unchanged (build p m room) m room
unfolding build build_checks
build-refused p m room a = refusal (build_checks p m (length room)) _ m room (inl refl) a (among_most 18 _ (build_checks p m (length room)) (omega arith) (build-number p m room))

pub make_fresh-refused : (m : List ℕ) → 1 ≤ (make_fresh m).number → Unchanged (make_fresh m) m []
unfolding make_fresh
make_fresh-refused m a = refusal _ _ m [] (inl refl) a (short (make_fresh-number m))
  where
    short : {n : ℕ} → (n ≡ 1) ⊎ (n ≡ 0) → n ≤ 18
    short (inl e) = omega arith
    short (inr e) = omega arith

pub expiry-refused : (p : ℕ) (m : List ℕ) → 1 ≤ (expiry p m).number → (expiry p m).number ≤ 18 → Unchanged (expiry p m) m []
unfolding expiry
expiry-refused p m a b =
    refusal (expiry_checks p m) (expired m) m [] (inr (expired_either (λ o. 18 < o.number) m (λ h. omega arith) (omega arith))) a b

-- ---- 20; what 21 leaves is in Flights

-- nothing written, and only octets 114 and 115 may differ
pub record OnlyTimer (o : Outcome) (m : List ℕ) : Type 0 where
  pub written : o.written ≡ []
  pub long : length o.memory ≡ length m
  pub others : (i : ℕ) → i ≢ 114 → i ≢ 115 → octet o.memory i ≡ octet m i

pub timer_others : (m : List ℕ) (w n : ℕ) → length m ≡ memory_length → (i : ℕ) → i ≢ 114 → i ≢ 115 → octet (set_timer m w n) i ≡ octet m i
timer_others m w n hm i a b =
    sym (octet-part (set_timer m w n) i) ∙ ap (λ (s : List ℕ). octet s 0) (part-set_timer m w n hm i 1 (apart (dec_le 116 i))) ∙ octet-part m i
  where
    apart : Dec (116 ≤ i) → (i + 1 ≤ timer_at) ⊎ (timer_at + 2 ≤ i)
    apart (yes h) = inr h
    apart (no h) = inl (omega arith)

pub expiry-timer : (p : ℕ) (m : List ℕ) → (expiry p m).number ≡ 20 → OnlyTimer (expiry p m) m
unfolding expiry expiry_checks
expiry-timer p m =
    call_either (λ o. o.number ≡ 20 → OnlyTimer o m) (expiry_checks p m) (expired m) m []
    (λ e.
    let hm = (opened m (in_sound p m (first-passed 0 _ _ e).0)).long in
    expired_either (λ o. o.number ≡ 20 → OnlyTimer o m) m
    (λ _ _. record { written = refl; long = set_timer-length m 1 (expiries m + 1) hm ∙ sym hm; others = timer_others m 1 (expiries m + 1) hm })
    (λ h. absurd (omega arith)))
    (λ f e h. absurd (omega (arith, e, first-most 8 (expiry_checks p m) (omega arith))))

-- ---- the room

-- what is written stands at the room's start, and the octets after it stay
pub record RoomAfter (o : Outcome) (room : List ℕ) : Type 0 where
  pub in_room : length o.written ≤ length room
  pub long : length o.room ≡ length room
  pub after : o.room ≡ o.written ++ drop (length o.written) room

pub call-room : (cs : Checks) (w m' m room : List ℕ) → (first_failed cs ≡ 0 → length w ≤ length room) → RoomAfter (call cs (done w m' room) m room) room
call-room cs w m' m room h =
    call_either (λ o. RoomAfter o room) cs (done w m' room) m room
    (λ e. record { in_room = h e; long = done-room w m' room (h e); after = refl })
    (λ f e. record { in_room = omega arith; long = refl; after = refl })

pub message-room : (p : ℕ) (m s room : List ℕ) → RoomAfter (message p m s room) room
unfolding message fits
message-room p m s room =
    let a =
    call-room (message_checks p m s (length room)) (handled p m s).reply (handled p m s).memory m room
    (λ e. leb-true _ _ (every_at _ 0 (message-passed p m s (length room) e).fit)) in
    record { in_room = a.in_room; long = a.long; after = a.after }

pub build-room : (p : ℕ) (m room : List ℕ) → RoomAfter (build p m room) room
unfolding build build_checks
build-room p m room =
    call-room (build_checks p m (length room)) (notification p m) (turned when_sent entry_count (set_timer m 1 0)) m room
    (λ e.
    let e1 = first-passed 0 _ _ e in
    let e11 = first-passed 10 _ _ e1.1 in
    omega (arith, notification-most p m (in_sound p m e1.0), leb-true 1600 (length room) e11.0))

-- a call that is lent no room writes nothing

number-room : (n : ℕ) (m : List ℕ) → RoomAfter (number_only n m []) []
number-room n m = record { in_room = omega arith; long = refl; after = refl }

call_no_room : (cs : Checks) (o : Outcome) (m : List ℕ) → RoomAfter o [] → RoomAfter (call cs o m []) []
call_no_room cs o m h = call_either (λ r. RoomAfter r []) cs o m [] (λ e. h) (λ f e. number-room (suc f) m)

pub local_value-room : (p : ℕ) (m : List ℕ) (n : ℕ) (v : List ℕ) → RoomAfter (local_value p m n v) []
unfolding local_value
local_value-room p m n v = call_no_room _ _ m (number-room 0 _)

pub expiry-room : (p : ℕ) (m : List ℕ) → RoomAfter (expiry p m) []
unfolding expiry
expiry-room p m = call_no_room _ _ m (expired_either (λ o. RoomAfter o []) m (λ h. number-room 20 _) (number-room 21 _))

pub make_fresh-room : (m : List ℕ) → RoomAfter (make_fresh m) []
unfolding make_fresh
make_fresh-room m = call_no_room _ _ m (number-room 0 _)
