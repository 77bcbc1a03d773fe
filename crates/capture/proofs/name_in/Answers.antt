-- `capture::name_in` meets its contract.
use native.Mathlib.Omega.{arith}
use mathlib.Core.Logic.{inl, inr}
use Rattle.capture.proofs.Fronts.{name_found, name-short}
use Rattle.capture.proofs.name_in.Goals as goal

pub returns-then-s-p : goal.returns-then-s-p
returns-then-s-p c = name-short _ _ (omega arith) (inl c.if-s-p.true)

pub returns-then-p-from-lt-NAME_LENGTH : goal.returns-then-p-from-lt-NAME_LENGTH
returns-then-p-from-lt-NAME_LENGTH c = name-short _ _ (omega arith) (inr (omega arith, c.if-p-from-lt-NAME_LENGTH.true))

pub returns : goal.returns
returns c = name_found _ _ _ (omega arith, omega arith) c.get16.ensures.0
