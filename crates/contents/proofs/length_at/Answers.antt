-- `contents::length_at` meets its contract.
use native.Mathlib.Omega.{arith}
use mathlib.Core.Path.{◌∙◌}
use Rattle.contents.proofs.Lengths.{spells_none, spells_one, spells_two}
use Rattle.contents.proofs.length_at.Goals as goal

pub returns-then-w-eq2 : goal.returns-then-w-eq2
returns-then-w-eq2 c = (c.get16.ensures.0 ∙ spells_two _ _ _ c.if-w-eq2.true (omega arith), c.get16.ensures.1)

pub returns-then-w-eq1 : goal.returns-then-w-eq1
returns-then-w-eq1 c = (c.from.ensures ∙ spells_one _ _ _ c.if-w-eq1.true (omega arith), omega arith)

pub returns : goal.returns
returns c = (spells_none _ _ _ (omega arith), omega arith)
