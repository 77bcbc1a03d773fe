-- The line of a call's answer, by the instruction's code: there is room for it, and it is that of the call's outcome.
use Prim.Native.Nat.{ℕ, ◌+◌, ◌≤◌, ◌<◌}
use native.Mathlib.Omega.{arith}
use mathlib.Core.Path.{◌≡◌, ap, ◌∙◌}
use mathlib.Core.Bool.{Bool, true, false, cond}
use mathlib.Core.List.{List}
use lib.ListN.{length}
use lib.Dec.{eqb}
use borrow.Author.Tests.{ne_eqb}
use Rattle.meaning.specs.Calls as calls
use Rattle.meaning.proofs.Refused.{RoomAfter}
use Rattle.page.specs.declared.Page.{Page}
use Rattle.page.specs.Printing.{HasRoom, Prints}
use Rattle.endpoint.specs.Outcomes.{Outcome, length_of, position_of, Gives}
use Rattle.endpoint.proofs.OneOutcome.{found}
use Rattle.text.proofs.Writes.{line-short, full_short}
use Rattle.answers.specs.Answers.{line_of, answer_line, full_of, full_answer}
use Rattle.answers.proofs.Answered.{line_is, full_is}
use Rattle.script.specs.Instructions.{called, told_line}
use Rattle.script.specs.Takes.{told_answer}
use Rattle.script.proofs.Codes.{called-room, called-position}

-- the two lines, which `write_answer` chooses between
pub in_full : (code : ℕ) (r : Outcome) (room : List ℕ) → code ≡ 9 → full_answer r room ≡ told_answer code r room
unfolding told_answer
in_full code r room e = rw e

pub in_short : (code : ℕ) (r : Outcome) (room : List ℕ) → (code ≡ 9 → ⊥) → answer_line r room ≡ told_answer code r room
unfolding told_answer
in_short code r room n = rw (ne_eqb code 9 n)

told-short : (code : ℕ) (o : calls.Outcome) → length (told_line code o) ≤ length o.written + length o.written + 12
unfolding told_line line_of full_of
told-short code o = at (eqb code 9)
  where
    at : (b : Bool) → length (cond b (full_of o) (line_of o)) ≤ length o.written + length o.written + 12
    at true = full_short o.number o.position o.written
    at false = omega (arith, line-short o.number o.written)

module _ (made : ℕ) (body m room₀ : List ℕ) {r : Outcome} {memory room : List ℕ} (g : Gives (called made body m room₀) r memory room) where
  after : RoomAfter (called made body m room₀) room₀
  after = called-room made body m room₀

  long : length room ≡ length room₀
  long = ap length g.room_is ∙ after.long

  pub tellable : (page : Page) → HasRoom page (length room₀ + length room₀ + 12)
      → (length_of r ≤ length room) × (position_of r < 10000) × HasRoom page (length room + length room + 12)
  tellable page h =
      (omega (arith, (found (called made body m room₀) room₀ after g).0, long), omega (arith, g.position, called-position made body m room₀), omega (arith, h, long))

  line-told : (code : ℕ) → told_answer code r room ≡ told_line code (called made body m room₀)
  unfolding told_answer told_line
  line-told code = rw (full_is (called made body m room₀) room₀ after g, line_is (called made body m room₀) room₀ after g)

  pub told : (code : ℕ) {page page' : Page} → Prints page (told_answer code r room) page'
      → (page'.at ≤ page.at + (length room₀ + length room₀ + 12)) × Prints page (told_line code (called made body m room₀)) page'
  told code p =
      let w = rw (line-told code) at p in
      (omega (arith, w.place, told-short code (called made body m room₀), after.in_room), w)
