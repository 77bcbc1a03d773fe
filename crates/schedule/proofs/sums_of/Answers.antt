-- `schedule::sums_of` meets its contract.
use Rattle.std.proofs.Common.{rules}
use Rattle.meaning.specs.Block.{sums_of}
use Rattle.schedule.proofs.sums_of.Goals as goal

pub returns : goal.returns
unfolding sums_of
returns c = search rules
