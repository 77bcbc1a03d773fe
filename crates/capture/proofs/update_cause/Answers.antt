-- `capture::update_cause` meets its contract.
use native.Mathlib.Omega.{arith}
use Rattle.capture.proofs.Causes.{told, not_told}
use Rattle.capture.proofs.update_cause.Goals as goal

pub returns-in-1 : goal.returns-in-1
returns-in-1 c = told _ (omega arith) (omega arith)

pub returns-in_default : goal.returns-in_default
returns-in_default c = not_told _ (omega arith) (omega arith)

pub returns-in_default-2 : goal.returns-in_default-2
returns-in_default-2 c = not_told _ (omega arith) (omega arith)
