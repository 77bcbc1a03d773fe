-- `memory::body` meets its contract.
use mathlib.Core.Path.{ap, ap₂, ◌∙◌}
use lib.ListN.{take}
use Rattle.std.proofs.lemmas.List.{take_min}
use Rattle.meaning.specs.Memory.{size, body}
use Rattle.memory.proofs.body.Goals as goal

pub returns : goal.returns
unfolding body
returns c =
    let s = c.room-s in
    rw c.min-n.ensures (take_min c.size.result s.result.now ∙ ap₂ take (c.size.ensures.0 ∙ ap size c.cell.ensures) s.ensures.0)
