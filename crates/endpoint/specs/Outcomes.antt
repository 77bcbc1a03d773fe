-- The number, the length and the position of each outcome, and what it means that a call gives what a definition says.
use Rattle.std.specs.Prelude.{ℕ, ◌≡◌, List, length, Result, Ok, Err}
use Rattle.meaning.specs.Checks.{passed, check}
use Rattle.meaning.specs.Memory.{waiting}
use Rattle.meaning.specs.Operation.{parse, or_none}
use Rattle.meaning.specs.Calls.{Handled, done, call, carried_out, acknowledged, fits}
use Rattle.meaning.specs.Calls as calls
use Rattle.endpoint.specs.declared.Done.{Done}
use Rattle.endpoint.specs.declared.Done.TheVariants.{Written, SendAgain, GivenUp}
use Rattle.endpoint.specs.declared.Refusal.{Refusal}
use Rattle.endpoint.specs.declared.Refusal.TheVariants.{MemoryUnsound, MessageEmpty, MessageTooLong, TypeUnknown, LengthWrong, OperationMalformed, ReplyDoesNotFit, Idle, NothingPending, AlreadyWaiting, NotificationRoomTooSmall, NotPermitted, ProfileUnknown}

-- what a call answers
abbrev pub Outcome : Type 0
Outcome = Result Done Refusal

abbrev pub number_of : Outcome → ℕ
number_of (Ok (Written n)) = 0
number_of (Ok SendAgain) = 20
number_of (Ok GivenUp) = 21
number_of (Err MemoryUnsound) = 1
number_of (Err MessageEmpty) = 2
number_of (Err MessageTooLong) = 3
number_of (Err TypeUnknown) = 4
number_of (Err LengthWrong) = 5
number_of (Err (OperationMalformed p)) = 6
number_of (Err ReplyDoesNotFit) = 7
number_of (Err Idle) = 8
number_of (Err NothingPending) = 9
number_of (Err AlreadyWaiting) = 10
number_of (Err NotificationRoomTooSmall) = 11
number_of (Err NotPermitted) = 12
number_of (Err ProfileUnknown) = 18

abbrev pub length_of : Outcome → ℕ
length_of (Ok (Written n)) = n
length_of _ = 0

abbrev pub position_of : Outcome → ℕ
position_of (Err (OperationMalformed p)) = p
position_of _ = 0

-- A call that answered r and left this memory and this room gives the outcome o. What was written stands at the room's start.
pub record Gives (o : calls.Outcome) (r : Outcome) (memory room : List ℕ) : Type 0 where
  pub number : number_of r ≡ o.number
  pub written : length_of r ≡ length o.written
  pub position : position_of r ≡ o.position
  pub memory_is : memory ≡ o.memory
  pub room_is : room ≡ o.room

-- what is left to decide once a message's checks before it have passed: its reply fits

unfoldable pub reply : Handled → List ℕ → List ℕ → calls.Outcome
reply d m room = call (check 7 (fits (length room) d) passed) (done d.reply d.memory room) m room

-- a whole list of operations
unfoldable pub command : (p : ℕ) → List ℕ → List ℕ → List ℕ → calls.Outcome
command p m list room = reply (carried_out p m (or_none (parse p list))) m room

-- an acknowledgement
unfoldable pub acknowledgement : List ℕ → List ℕ → calls.Outcome
acknowledgement m room = call (check 8 (waiting m) (check 7 (fits (length room) (acknowledged m)) passed)) (done (acknowledged m).reply (acknowledged m).memory room) m room
