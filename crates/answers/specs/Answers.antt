-- The line that a call's outcome is answered with: as the definition of the call gives it, and as the call's answer and room tell it.
use Rattle.std.specs.Prelude.{ℕ, ◌≡◌, List, take}
use Rattle.meaning.specs.Calls as calls
use Rattle.page.specs.declared.Page.{Page}
use Rattle.page.specs.Printing.{Prints}
use Rattle.endpoint.specs.Outcomes.{Outcome, number_of, length_of, position_of}
use Rattle.text.specs.Lines.{line, full_line}

-- the number, a space, what was written in hex or `-`
unfoldable pub line_of : calls.Outcome → List ℕ
line_of o = line o.number o.written

-- the same line, what was written found at the start of a room
unfoldable pub answer_line : Outcome → List ℕ → List ℕ
answer_line r room = line (number_of r) (take (length_of r) room)

-- told in full: the position stands between the number and what was written
unfoldable pub full_of : calls.Outcome → List ℕ
full_of o = full_line o.number o.position o.written

unfoldable pub full_answer : Outcome → List ℕ → List ℕ
full_answer r room = full_line (number_of r) (position_of r) (take (length_of r) room)

-- what a program lends to its calls, and keeps from one to the next
pub record Port : Type 0 where
  pub memory : List ℕ
  pub room : List ℕ

-- an outcome's line has been printed, and memory and room are left as it says
pub record Answers (o : calls.Outcome) (before after : Page) (memory room : List ℕ) : Type 0 where
  pub printed : Prints before (line_of o) after
  pub memory_is : memory ≡ o.memory
  pub room_is : room ≡ o.room
