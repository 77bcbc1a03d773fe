-- `table::spared` meets its contract.
use native.Mathlib.Omega.{arith}
use Rattle.meaning.specs.Profile.{is_release16, spared}
use Rattle.table.proofs.spared.Goals as goal

pub returns-then-profile-k : goal.returns-then-profile-k
unfolding spared is_release16
returns-then-profile-k c = (rw c.if-profile-k.true, omega arith)

pub returns-else-profile-k : goal.returns-else-profile-k
unfolding spared is_release16
returns-else-profile-k c = (rw c.if-profile-k.false, omega arith)
