-- `values::list_ok` meets its contract.
use Rattle.meaning.specs.Block.{list_ok}
use Rattle.values.proofs.list_ok.Goals as goal

pub returns : goal.returns
unfolding list_ok
returns c = rw c.entries_ok.ensures
