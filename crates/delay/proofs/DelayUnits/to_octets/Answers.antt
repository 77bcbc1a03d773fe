-- `delay::DelayUnits::to_octets` meets its contract.
use mathlib.Core.Path.{◌∙◌}
use Rattle.delay.proofs.Spelt.{low_written}
use Rattle.delay.proofs.DelayUnits.to_octets.Goals as goal

pub returns : goal.returns
returns c = c.to_le_bytes.ensures ∙ low_written c.args.self.0
