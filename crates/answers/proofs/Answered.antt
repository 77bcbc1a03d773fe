-- The line of an answer is short, and it is that of the outcome which the call gives.
use Prim.Native.Nat.{ℕ, ◌+◌, ◌≤◌, ◌<◌}
use native.Mathlib.Omega.{arith}
use mathlib.Core.Path.{◌≡◌, ap, ap₂, ◌∙◌}
use mathlib.Core.List.{List}
use lib.ListN.{length, take}
use Rattle.meaning.specs.Calls as calls
use Rattle.meaning.proofs.Refused.{RoomAfter}
use Rattle.page.specs.declared.Page.{Page}
use Rattle.page.specs.Printing.{HasRoom, Prints}
use Rattle.endpoint.specs.Outcomes.{Outcome, number_of, length_of, position_of, Gives}
use Rattle.std.specs.Prelude.{Ok, Err}
use Rattle.endpoint.specs.declared.Done.TheVariants.{Written, SendAgain, GivenUp}
use Rattle.endpoint.specs.declared.Refusal.TheVariants.{MemoryUnsound, MessageEmpty, MessageTooLong, TypeUnknown, LengthWrong, OperationMalformed, ReplyDoesNotFit, Idle, NothingPending, AlreadyWaiting, NotificationRoomTooSmall, NotPermitted, ProfileUnknown}
use Rattle.endpoint.proofs.OneOutcome.{found}
use Rattle.text.specs.Lines.{line, full_line}
use Rattle.answers.specs.Answers.{line_of, answer_line, full_of, full_answer, Answers}
use Rattle.text.proofs.Writes.{line-short}

pub number_short : (o : Outcome) → number_of o < 100
number_short (Ok (Written n)) = omega arith
number_short (Ok SendAgain) = omega arith
number_short (Ok GivenUp) = omega arith
number_short (Err MemoryUnsound) = omega arith
number_short (Err MessageEmpty) = omega arith
number_short (Err MessageTooLong) = omega arith
number_short (Err TypeUnknown) = omega arith
number_short (Err LengthWrong) = omega arith
number_short (Err (OperationMalformed p)) = omega arith
number_short (Err ReplyDoesNotFit) = omega arith
number_short (Err Idle) = omega arith
number_short (Err NothingPending) = omega arith
number_short (Err AlreadyWaiting) = omega arith
number_short (Err NotificationRoomTooSmall) = omega arith
number_short (Err NotPermitted) = omega arith
number_short (Err ProfileUnknown) = omega arith

-- the line of an answer, as its number and its octets are written
pub answer_is : (r : Outcome) (room : List ℕ) (k n : ℕ) → k ≡ number_of r → n ≡ length_of r → line k (take n room) ≡ answer_line r room
unfolding answer_line
answer_is r room k n e f = rw (e, f)

pub full_answer_is : (r : Outcome) (room : List ℕ) (k p n : ℕ) → k ≡ number_of r → p ≡ position_of r → n ≡ length_of r → full_line k p (take n room) ≡ full_answer r room
unfolding full_answer
full_answer_is r room k p n e q f = rw (e, q, f)

-- What a call gives, and its answer's line behind it: there is room for the line where there is for that of a full room, and the
-- line is that of the call's outcome.
module _ (o : calls.Outcome) (room₀ : List ℕ) {r : Outcome} {memory room : List ℕ} (a : RoomAfter o room₀) (g : Gives o r memory room) where
  long : length room ≡ length room₀
  long = ap length g.room_is ∙ a.long

  pub answerable : (page : Page) → HasRoom page (length room₀ + length room₀ + 5) → (length_of r ≤ length room) × HasRoom page (length room + length room + 5)
  answerable page h = (omega (arith, (found o room₀ a g).0, long), omega (arith, h, long))

  -- an answer's line, and one told in full, are those of the call's outcome
  pub line_is : answer_line r room ≡ line_of o
  unfolding line_of answer_line
  line_is = ap₂ line g.number (found o room₀ a g).1

  pub full_is : full_answer r room ≡ full_of o
  unfolding full_of full_answer
  full_is = rw (g.number, g.position, (found o room₀ a g).1)

  pub answered : {before after : Page} → Prints before (answer_line r room) after
      → (after.at ≤ before.at + (length room₀ + length room₀ + 5)) × Answers o before after memory room
  unfolding line_of
  answered p =
      let w = rw line_is at p in (
        omega (arith, w.place, line-short o.number o.written, a.in_room),
        record { printed = w; memory_is = g.memory_is; room_is = g.room_is },
      )
