-- `operation::malformed_at` meets its contract.
use mathlib.Core.Path.{refl}
use Rattle.operation.specs.Handing.{found_at}
use Rattle.operation.proofs.malformed_at.Goals as goal

pub returns : goal.returns
unfolding found_at
returns c = refl
