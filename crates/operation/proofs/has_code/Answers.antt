-- `operation::has_code` meets its contract.
use mathlib.Core.Path.{refl}
use Rattle.meaning.specs.Octets.{implies}
use Rattle.meaning.specs.Profile.{is_release16, has_code}
use Rattle.operation.proofs.has_code.Goals as goal

pub returns : goal.returns
unfolding has_code implies is_release16
returns c = refl
