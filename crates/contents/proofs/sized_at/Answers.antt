-- `contents::sized_at` meets its contract.
use native.Mathlib.Omega.{arith}
use Rattle.contents.proofs.Lengths.{no_length, no_value, all_there}
use Rattle.contents.proofs.sized_at.Goals as goal

pub returns-then-to-at : goal.returns-then-to-at
returns-then-to-at c = no_length _ _ _ _ (omega arith) (omega arith) c.if-to-at.true

pub returns-then-to-from : goal.returns-then-to-from
returns-then-to-from c = no_value _ _ _ _ (omega arith) (omega arith) _ (omega arith) c.length_at-n.ensures.0 c.if-to-from.true

pub returns : goal.returns
returns c = all_there _ _ _ _ (omega arith) (omega arith) _ (omega arith) c.length_at-n.ensures.0 c.if-to-from.false
