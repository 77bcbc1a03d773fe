-- What a contract says of its caller's octets: what was written is found in the room, and two outcomes that one definition gives are equal.
use Prim.Native.Nat.{ℕ, zero, suc, ◌≤◌}
use native.Mathlib.Omega.{arith}
use mathlib.Core.Path.{◌≡◌, refl, sym, ◌∙◌}
use mathlib.Core.Bool.{cond}
use mathlib.Core.List.{List, [], ◌∷◌}
use lib.Dec.{eqb}
use lib.ListN.{length, get_or, take, drop}
use lib.Seq.{take_at}
use Rattle.meaning.specs.Calls as calls
use Rattle.meaning.specs.FormB.{message, local_value, build, expiry, make_fresh}
use Rattle.meaning.proofs.Refused.{RoomAfter}
use Rattle.meaning.proofs.Sendings.{take_message, build_in}
use Rattle.meaning.proofs.Formed.{gives_lent, room_of, lent-room}
use Rattle.std.specs.Prelude.{Ok, Err}
use Rattle.endpoint.specs.declared.Done.TheVariants.{Written, SendAgain, GivenUp}
use Rattle.endpoint.specs.declared.Refusal.{Refusal}
use Rattle.endpoint.specs.declared.Refusal.TheVariants.{MemoryUnsound, MessageEmpty, MessageTooLong, TypeUnknown, LengthWrong, OperationMalformed, ReplyDoesNotFit, Idle, NothingPending, AlreadyWaiting, NotificationRoomTooSmall, NotPermitted, ProfileUnknown}
use Rattle.endpoint.specs.Outcomes.{Outcome, number_of, length_of, position_of, Gives}

-- ---- what was written

pub found : (o : calls.Outcome) (room : List ℕ) {r : Outcome} {m' room' : List ℕ} → RoomAfter o room → Gives o r m' room'
    → (length_of r ≤ length room) × (take (length_of r) room' ≡ o.written)
found o room a g = (
  omega (arith, a.in_room, g.written),
  rw (g.written, g.room_is, a.after) (take_at o.written (drop (length o.written) room) (length o.written) refl),
)

pub message-written : (b s room : List ℕ) {r : Outcome} {b' room' : List ℕ} → Gives (message b s room) r b' room'
    → (length_of r ≤ length room) × (take (length_of r) room' ≡ (message b s room).written)
unfolding gives_lent room_of
message-written b s room g = found (message b s room) room (lent-room b (take_message s room)) g

pub build-written : (b room : List ℕ) {r : Outcome} {b' room' : List ℕ} → Gives (build b room) r b' room'
    → (length_of r ≤ length room) × (take (length_of r) room' ≡ (build b room).written)
unfolding gives_lent room_of
build-written b room g = found (build b room) room (lent-room b (build_in room)) g

-- ---- law 9: what a call's contract allows is one thing

-- what a caller has after a call; where no room was lent there is an empty one
pub record Seen : Type 0 where
  pub outcome : Outcome
  pub memory : List ℕ
  pub room : List ℕ

-- the contract of a call that gives o allows x
abbrev pub Allows : calls.Outcome → Seen → Type 0
Allows o x = Gives o x.outcome x.memory x.room

-- a number, a length and a position belong to one outcome

refusals : ℕ → List Refusal
refusals p =
    MemoryUnsound ∷ MessageEmpty ∷ MessageTooLong ∷ TypeUnknown ∷ LengthWrong ∷ OperationMalformed p ∷ ReplyDoesNotFit ∷ Idle ∷ NothingPending ∷ AlreadyWaiting
    ∷ NotificationRoomTooSmall ∷ NotPermitted ∷ []

outcome_of : ℕ → ℕ → ℕ → Outcome
outcome_of zero n p = Ok (Written n)
outcome_of (suc k) n p = cond (eqb k 19) (Ok SendAgain) (cond (eqb k 20) (Ok GivenUp) (Err (get_or (refusals p) k ProfileUnknown)))

outcome_is : (r : Outcome) → outcome_of (number_of r) (length_of r) (position_of r) ≡ r
unfolding outcome_of refusals
outcome_is (Ok (Written n)) = refl
outcome_is (Ok SendAgain) = refl
outcome_is (Ok GivenUp) = refl
outcome_is (Err MemoryUnsound) = refl
outcome_is (Err MessageEmpty) = refl
outcome_is (Err MessageTooLong) = refl
outcome_is (Err TypeUnknown) = refl
outcome_is (Err LengthWrong) = refl
outcome_is (Err (OperationMalformed p)) = refl
outcome_is (Err ReplyDoesNotFit) = refl
outcome_is (Err Idle) = refl
outcome_is (Err NothingPending) = refl
outcome_is (Err AlreadyWaiting) = refl
outcome_is (Err NotificationRoomTooSmall) = refl
outcome_is (Err NotPermitted) = refl
outcome_is (Err ProfileUnknown) = refl

one_seen : (x y : Seen) → x.outcome ≡ y.outcome → x.memory ≡ y.memory → x.room ≡ y.room → x ≡ y
one_seen x y a b c = rw (a, b, c)

pub one_outcome : (o : calls.Outcome) (x y : Seen) → Allows o x → Allows o y → x ≡ y
one_outcome o x y g h =
    let told : outcome_of (number_of x.outcome) (length_of x.outcome) (position_of x.outcome) ≡ outcome_of (number_of y.outcome) (length_of y.outcome) (position_of y.outcome) =
    rw (g.number ∙ sym h.number, g.written ∙ sym h.written, g.position ∙ sym h.position) in
    one_seen x y (sym (outcome_is x.outcome) ∙ told ∙ outcome_is y.outcome)
    (g.memory_is ∙ sym h.memory_is) (g.room_is ∙ sym h.room_is)

-- of each of the five calls

pub message_one : (b s room : List ℕ) (x y : Seen) → Allows (message b s room) x → Allows (message b s room) y → x ≡ y
message_one b s room = one_outcome (message b s room)

pub local_value_one : (b : List ℕ) (n : ℕ) (v : List ℕ) (x y : Seen) → Allows (local_value b n v) x → Allows (local_value b n v) y → x ≡ y
local_value_one b n v = one_outcome (local_value b n v)

pub build_one : (b room : List ℕ) (x y : Seen) → Allows (build b room) x → Allows (build b room) y → x ≡ y
build_one b room = one_outcome (build b room)

pub expiry_one : (b : List ℕ) (x y : Seen) → Allows (expiry b) x → Allows (expiry b) y → x ≡ y
expiry_one b = one_outcome (expiry b)

pub make_fresh_one : (b : List ℕ) (q : ℕ) (x y : Seen) → Allows (make_fresh b q) x → Allows (make_fresh b q) y → x ≡ y
make_fresh_one b q = one_outcome (make_fresh b q)
