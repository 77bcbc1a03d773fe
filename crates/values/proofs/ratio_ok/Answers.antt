-- `values::ratio_ok` meets its contract.
use mathlib.Core.Path.{ap}
use lib.Dec.{leb}
use Rattle.meaning.specs.Block.{ratio_ok}
use Rattle.values.proofs.ratio_ok.Goals as goal

pub returns : goal.returns
unfolding ratio_ok
returns c = ap (leb 1) c.get32.ensures.0
