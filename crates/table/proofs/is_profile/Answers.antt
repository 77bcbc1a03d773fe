-- `table::is_profile` meets its contract.
use mathlib.Core.Path.{refl}
use Rattle.meaning.specs.Profile.{is_profile}
use Rattle.table.proofs.is_profile.Goals as goal

pub returns : goal.returns
unfolding is_profile
returns c = refl
