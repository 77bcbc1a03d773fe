-- The line of a move's answer: there is room for it, and it is that of the move's outcome.
use Prim.Native.Nat.{ℕ, ◌+◌, ◌≤◌, ◌<◌}
use native.Mathlib.Omega.{arith}
use mathlib.Core.Path.{◌≡◌, refl, ap, ap₂, ◌∙◌}
use mathlib.Core.Logic.{◌⊎◌, inl, inr}
use mathlib.Core.Bool.{Bool, true, false, cond}
use mathlib.Core.List.{List}
use lib.ListN.{length, take, drop}
use lib.Seq.{take_at}
use lib.Dec.{eqb}
use Rattle.meaning.specs.Calls.{Outcome}
use Rattle.meaning.specs.Moves.{forward, back}
use Rattle.meaning.proofs.Refused.{RoomAfter}
use Rattle.meaning.proofs.Moved.{forward_leaves, back_leaves, forward-room, back-room}
use Rattle.page.specs.declared.Page.{Page}
use Rattle.page.specs.Printing.{HasRoom, Prints}
use Rattle.moves.specs.Moved.{number_of, length_of, Gives}
use Rattle.std.specs.Prelude.{Result, Ok, Err}
use Rattle.moves.specs.declared.Refusal.{Refusal}
use Rattle.moves.specs.declared.Refusal.TheVariants.{MemoryUnsound, RoomNotExact, NotRelease18, InFlight}
use Rattle.text.specs.Lines.{line}
use Rattle.text.proofs.Writes.{line-short}
use Rattle.answers.specs.Answers.{line_of}
use Rattle.script.specs.Instructions.{moved_by, told_line}

pub number_short : (r : Result ℕ Refusal) → number_of r < 100
number_short (Ok n) = omega arith
number_short (Err MemoryUnsound) = omega arith
number_short (Err RoomNotExact) = omega arith
number_short (Err NotRelease18) = omega arith
number_short (Err InFlight) = omega arith

-- what holds of both moves holds of the one that a code makes
moved_either : (P : Outcome → Type 0) (code : ℕ) (m room : List ℕ) → P (forward m room) → P (back m room) → P (moved_by code m room)
unfolding moved_by
moved_either P code m room f g = at (eqb code 11)
  where
    at : (b : Bool) → P (cond b (forward m room) (back m room))
    at true = f
    at false = g

module _ (code : ℕ) (m room₀ : List ℕ) {r : Result ℕ Refusal} {memory room : List ℕ} (g : Gives (moved_by code m room₀) r memory room) where
  after : RoomAfter (moved_by code m room₀) room₀
  after = moved_either (λ o. RoomAfter o room₀) code m room₀ (forward-room m room₀) (back-room m room₀)

  pub moved_leaves : (moved_by code m room₀).memory ≡ m
  moved_leaves = moved_either (λ o. o.memory ≡ m) code m room₀ (forward_leaves m room₀) (back_leaves m room₀)

  long : length room ≡ length room₀
  long = ap length g.room_is ∙ after.long

  pub tellable : (page : Page) → HasRoom page (length room₀ + length room₀ + 12) → (length_of r ≤ length room) × HasRoom page (length room + length room + 5)
  tellable page h = (omega (arith, g.written, after.in_room, long), omega (arith, h, long))

  -- what was written stands at the room's start
  found : take (length_of r) room ≡ (moved_by code m room₀).written
  found =
      let w = (moved_by code m room₀).written in
      rw (g.written, g.room_is, after.after) (take_at w (drop (length w) room₀) (length w) refl)

  line_is : (code ≡ 11) ⊎ (code ≡ 12) → line (number_of r) (take (length_of r) room) ≡ told_line code (moved_by code m room₀)
  unfolding told_line line_of
  line_is (inl e) = ap₂ line g.number found ∙ rw e
  line_is (inr e) = ap₂ line g.number found ∙ rw e

  pub told : (code ≡ 11) ⊎ (code ≡ 12) → {page page' : Page} → Prints page (line (number_of r) (take (length_of r) room)) page'
      → (page'.at ≤ page.at + (length room₀ + length room₀ + 12)) × Prints page (told_line code (moved_by code m room₀)) page'
  told k p =
      let h = line-short (number_of r) (take (length_of r) room) in
      (omega (arith, p.place, h, ap length found, after.in_room), rw (line_is k) at p)
