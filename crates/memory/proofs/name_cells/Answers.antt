-- `memory::name_cells` meets its contract.
use native.Mathlib.Numerals.{add-one}
use mathlib.Core.Path.{refl, ◌∙◌}
use Rattle.meaning.specs.Memory.{absent}
use Rattle.memory.proofs.name_cells.Goals as goal

pub loop-k-init : goal.loop-k-init
unfolding absent
loop-k-init c = refl

pub loop-k-preserved : goal.loop-k-preserved
unfolding absent
loop-k-preserved c = c.put_cell.ensures ∙ rw (add-one, c.loop-k.invariant) refl
