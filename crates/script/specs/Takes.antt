-- What the functions say of instructions: what is lent, and what an instruction that is taken leaves.
use Rattle.std.specs.Prelude.{ℕ, ◌+◌, ◌≤◌, ◌≡◌, true, false, cond, List, length, take, eqb, Some, None}
use Rattle.std.specs.declared.option.Option.{Option}
use Rattle.octets.specs.Writing.{Wrote}
use Rattle.page.specs.declared.Page.{Page}
use Rattle.page.specs.Printing.{HasRoom, Prints}
use Rattle.endpoint.specs.Outcomes.{Outcome}
use Rattle.answers.specs.Answers.{answer_line, full_answer}
use Rattle.script.specs.Instructions.{Effect, body_right, effect}
use Rattle.script.specs.declared.Lent.{Lent}
use Rattle.script.specs.declared.Call as calls
use Rattle.script.specs.declared.Call.TheVariants.{Fresh, Message, LocalValue, Build, Expiry, MessageInFull}
use Rattle.script.specs.declared.Shown as showings
use Rattle.script.specs.declared.Shown.TheVariants.{Memory, Room, Delay, Gates}
use Rattle.script.specs.declared.Move as moves
use Rattle.script.specs.declared.Move.TheVariants.{Forward, Back}
use Rattle.script.specs.declared.Instruction as instructions
use Rattle.script.specs.declared.Instruction.TheVariants.{Call, Lend, Show, Move}

-- the code of each instruction
abbrev pub call_code : calls.Call → ℕ
call_code Fresh = 0
call_code Message = 1
call_code LocalValue = 2
call_code Build = 3
call_code Expiry = 4
call_code MessageInFull = 9

abbrev pub shown_code : showings.Shown → ℕ
shown_code Memory = 6
shown_code Room = 7
shown_code Delay = 8
shown_code Gates = 10

abbrev pub move_code : moves.Move → ℕ
move_code Forward = 11
move_code Back = 12

abbrev pub code_of : instructions.Instruction → ℕ
code_of (Call c) = call_code c
code_of Lend = 5
code_of (Show s) = shown_code s
code_of (Move w) = move_code w

-- an instruction is read where its code is known and its body has a right length
abbrev pub Reads : ℕ → ℕ → Option instructions.Instruction → Type 0
Reads code n (Some i) = (code_of i ≡ code) × (body_right code n ≡ true)
Reads code n None = body_right code n ≡ false

-- the line of a call's answer, what was written found at the start of a room: `told_line` of its outcome
unfoldable pub told_answer : ℕ → Outcome → List ℕ → List ℕ
told_answer code r room = cond (eqb code 9) (full_answer r room) (answer_line r room)

-- what is lent lies within the arrays
abbrev pub Lends : Lent → Type 0
Lends lent = (lent.memory ≤ 2200) × (lent.room ≤ 8192)

-- and there is room for the longest line on the page
abbrev pub Ready : List ℕ → List ℕ → Lent → Page → Type 0
Ready memory room lent page = (length memory ≡ 2200) × (length room ≡ 8192) × Lends lent × HasRoom page 16396

-- an instruction that had the effect d: its line has been printed, what is lent from now on is as it says, and what the arrays hold behind it stays
pub record Leaves (d : Effect) (memory room : List ℕ) (page page' : Page) (lent : Lent) (memory' room' : List ℕ) : Type 0 where
  pub printed : Prints page d.line page'
  pub short : page'.at ≤ page.at + 16396
  pub lends : Lends lent
  pub memory_is : Wrote memory 0 d.memory lent.memory memory'
  pub room_is : Wrote room 0 d.room lent.room room'

-- an instruction whose body is right does what its definition says of what was lent
abbrev pub Does : ℕ → List ℕ → List ℕ → List ℕ → Lent → Page → Page → Lent → List ℕ → List ℕ → Type 0
Does code body memory room lent page page' lends memory' room' =
    (body_right code (length body) ≡ true) × Leaves (effect code body (take lent.memory memory) (take lent.room room)) memory room page page' lends memory' room'

-- and is taken; any other changes nothing
abbrev pub Takes : ℕ → List ℕ → List ℕ → List ℕ → Lent → Page → Page → Option Lent → List ℕ → List ℕ → Type 0
Takes code body memory room lent page page' (Some lends) memory' room' = Does code body memory room lent page page' lends memory' room'
Takes code body memory room lent page page' None memory' room' = (body_right code (length body) ≡ false) × (memory' ≡ memory) × (room' ≡ room) × (page' ≡ page)
