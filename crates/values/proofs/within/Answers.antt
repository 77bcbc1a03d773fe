-- `values::within` meets its contract.
use Rattle.values.proofs.within.Goals as goal

pub returns : goal.returns
returns c = rw c.as_number-n.ensures.0
