-- `section::learnt` meets its contract.
use mathlib.Core.Path.{ap}
use borrow.Author.Tests.{eq-eqb, ne_eqb}
use Rattle.meaning.specs.Table.{commit}
use Rattle.std.specs.Prelude.{Some}
use Rattle.section.specs.Knowing.{learnt_from}
use Rattle.section.proofs.Knows.{learnt_other}
use Rattle.section.proofs.learnt.Goals as goal

pub returns-in_default : goal.returns-in_default
returns-in_default c =
    let a = c.args in
    learnt_other a.m.now a.a a.known c.in_default.not-Value

pub returns-then-k-ne-COMMIT : goal.returns-then-k-ne-COMMIT
unfolding learnt_from
returns-then-k-ne-COMMIT c = rw (c.in-Value.is, ne_eqb _ commit c.if-k-ne-COMMIT.true)

pub returns : goal.returns
unfolding learnt_from
returns c = rw (c.in-Value.is, eq-eqb _ commit c.if-k-ne-COMMIT.false) (ap Some c.running_sums.ensures)
