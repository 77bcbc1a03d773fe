-- `table::as_row` meets its contract.
use mathlib.Core.Path.{refl}
use Rattle.table.specs.Rows.{row_of}
use Rattle.table.proofs.as_row.Goals as goal

pub returns : goal.returns
unfolding row_of
returns c = (refl, refl)
