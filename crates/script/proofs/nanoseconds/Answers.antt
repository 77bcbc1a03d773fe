-- `script::nanoseconds` meets its contract.
use Prim.Native.Nat.{ℕ, ◌+◌, ◌*◌}
use mathlib.Core.Path.{ap₂}
use Rattle.script.specs.Instructions.{nanoseconds}
use Rattle.script.proofs.nanoseconds.Goals as goal

pub returns : goal.returns
unfolding nanoseconds
returns c = ap₂ (λ (a : ℕ) (b : ℕ). a * 4294967296 + b) c.get32.ensures.0 c.get32-2.ensures.0
