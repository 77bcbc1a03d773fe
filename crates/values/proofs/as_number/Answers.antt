-- `values::as_number` meets its contract.
use native.Mathlib.Omega.{arith}
use mathlib.Core.Path.{sym, ◌∙◌}
use borrow.Author.Rules.{rules}
use Rattle.meaning.proofs.Values.{number_one}
use Rattle.values.proofs.Values.{number_read, four_left}
use Rattle.values.proofs.as_number.Goals as goal

pub get32-requires : goal.get32-requires
get32-requires c = omega (arith, four_left _ c.requires c.if-v-eq1.false)

pub returns-then-v-eq1 : goal.returns-then-v-eq1
returns-then-v-eq1 c =
    (c.from.ensures ∙ sym (number_one c.args.v.now c.if-v-eq1.true), search rules)

pub returns-else-v-eq1 : goal.returns-else-v-eq1
returns-else-v-eq1 c =
    (c.get32.ensures.0 ∙ sym (number_read c.args.v.now (four_left _ c.requires c.if-v-eq1.false)), c.get32.ensures.1)
