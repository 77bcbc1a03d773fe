-- `memory::has` meets its contract.
use mathlib.Core.Path.{ap, ◌∙◌}
use Rattle.memory.specs.Flags.{marked}
use Rattle.memory.proofs.Cells.{marked-has}
use Rattle.memory.proofs.has.Goals as goal

pub returns : goal.returns
returns c = c.marked.ensures ∙ ap (marked c.args.flag) c.cell.ensures ∙ marked-has c.args.flag c.args.m.now c.args.k
