-- `values::fits_cycle` meets its contract.
use mathlib.Core.Path.{ap}
use lib.Dec.{leb}
use Rattle.values.proofs.fits_cycle.Goals as goal

pub returns : goal.returns
returns c = ap (leb c.args.sum) c.cycle.ensures
