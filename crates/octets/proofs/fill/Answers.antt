-- `octets::fill` meets its contract.
use mathlib.Core.Path.{◌∙◌}
use Rattle.octets.proofs.Tails.{filled}
use Rattle.octets.proofs.fill.Goals as goal

pub returns : goal.returns
returns c = (rw c.copy_from_slice.ensures.after at c.clear_from.ensures) ∙ filled c.args.room.now c.args.value.now c.requires
