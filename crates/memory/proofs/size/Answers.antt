-- `memory::size` meets its contract.
use Rattle.meaning.specs.Memory.{size}
use Rattle.memory.proofs.size.Goals as goal

pub returns : goal.returns
unfolding size
returns c = c.get16.ensures
