-- `memory::bit` meets its contract.
use native.Mathlib.Omega.{arith}
use Rattle.meaning.specs.Memory.{bit}
use Rattle.memory.proofs.bit.Goals as goal

pub returns-then-on : goal.returns-then-on
unfolding bit
returns-then-on c = (rw c.if-on.true, omega arith)

pub returns-else-on : goal.returns-else-on
unfolding bit
returns-else-on c = (rw c.if-on.false, omega arith)
