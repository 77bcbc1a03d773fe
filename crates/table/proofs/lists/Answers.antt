-- `table::lists` meets its contract.
use mathlib.Core.Path.{refl}
use Rattle.meaning.specs.Profile.{is_release16, lists}
use Rattle.table.proofs.lists.Goals as goal

pub returns : goal.returns
unfolding lists is_release16
returns c = refl
