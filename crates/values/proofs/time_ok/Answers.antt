-- `values::time_ok` meets its contract.
use Prim.Native.Nat.{ℕ}
use mathlib.Core.Path.{ap}
use lib.Dec.{ltb}
use Rattle.meaning.specs.Block.{time_ok}
use Rattle.values.proofs.time_ok.Goals as goal

pub returns : goal.returns
unfolding time_ok
returns c = ap (λ (n : ℕ). ltb n 1000000000) c.get32.ensures.0
