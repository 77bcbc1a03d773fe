-- The number and the length of each answer, and what it means that a move gives what a definition says.
use Rattle.std.specs.Prelude.{ℕ, ◌≡◌, List, length, Result, Ok, Err}
use Rattle.meaning.specs.Calls.{Outcome}
use Rattle.moves.specs.declared.Refusal.{Refusal}
use Rattle.moves.specs.declared.Refusal.TheVariants.{MemoryUnsound, RoomNotExact, NotRelease18, InFlight}

abbrev pub number_of : Result ℕ Refusal → ℕ
number_of (Ok n) = 0
number_of (Err MemoryUnsound) = 1
number_of (Err RoomNotExact) = 16
number_of (Err NotRelease18) = 19
number_of (Err InFlight) = 17

abbrev pub length_of : Result ℕ Refusal → ℕ
length_of (Ok n) = n
length_of (Err why) = 0

-- A move that answered r and left this memory and this room gives the outcome o. What was written stands at the room's start.
pub record Gives (o : Outcome) (r : Result ℕ Refusal) (memory room : List ℕ) : Type 0 where
  pub number : number_of r ≡ o.number
  pub written : length_of r ≡ length o.written
  pub memory_is : memory ≡ o.memory
  pub room_is : room ≡ o.room
