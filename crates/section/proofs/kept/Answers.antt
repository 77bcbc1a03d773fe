-- `section::kept` meets its contract.
use mathlib.Core.Path.{refl}
use borrow.Author.Tests.{ne_eqb}
use Rattle.section.specs.Knowing.{kept_after}
use Rattle.section.proofs.Knows.{kept_other}
use Rattle.section.proofs.kept.Goals as goal

pub returns-in_default : goal.returns-in_default
returns-in_default c = kept_other c.args.op c.args.known c.in_default.not-Set

pub returns-then-v-eq-COMMIT_NAME : goal.returns-then-v-eq-COMMIT_NAME
unfolding kept_after
returns-then-v-eq-COMMIT_NAME c = rw (c.in-Set.is, c.if-v-eq-COMMIT_NAME.true) refl

pub returns-else-v-eq-COMMIT_NAME : goal.returns-else-v-eq-COMMIT_NAME
unfolding kept_after
returns-else-v-eq-COMMIT_NAME c = rw (c.in-Set.is, ne_eqb _ 0x8001 c.if-v-eq-COMMIT_NAME.false)
