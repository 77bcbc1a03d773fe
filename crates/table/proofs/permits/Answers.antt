-- `table::permits` meets its contract.
use native.Mathlib.Omega.{arith}
use mathlib.Core.Path.{◌≡◌}
use mathlib.Core.Bool.{true, and-false, and-true}
use lib.ListN.{length}
use lib.Dec.{leb}
use borrow.Author.Tests.{lt-leb, le-leb}
use Rattle.meaning.specs.Octets.{every}
use Rattle.meaning.specs.Table.{row_at}
use Rattle.meaning.specs.Block.{permits}
use Rattle.table.proofs.Rows.{least_is, most_is, rule_is, row-asked}
use Rattle.table.proofs.permits.Goals as goal

pub returns-then-n-row : goal.returns-then-n-row
unfolding permits every
returns-then-n-row c =
    let e = least_is c.row_at-row.result (row_at c.args.k) c.row_at-row.ensures.0 in
    rw (lt-leb (row_at c.args.k).least (length c.args.v.now) (omega (arith, e, c.if-n-row.true)))

pub returns-then-row-n : goal.returns-then-row-n
unfolding permits every
returns-then-row-n c =
    let e = most_is c.row_at-row.result (row_at c.args.k) c.row_at-row.ensures.0 in
    rw (lt-leb (length c.args.v.now) (row_at c.args.k).most (omega (arith, e, c.if-row-n.true)), and-false)

pub keeps-requires : goal.keeps-requires
keeps-requires c =
    let r = c.row_at-row.result in
    let x = row_at c.args.k in
    let e = c.row_at-row.ensures.0 in
    rw (rule_is r x e) (row-asked c.args.k (length c.args.v.now) (omega (arith, least_is r x e, c.if-n-row.false)) (omega (arith, most_is r x e, c.if-row-n.false)))

pub returns : goal.returns
unfolding permits every
returns c =
    let r = c.row_at-row.result in
    let x = row_at c.args.k in
    let n = length c.args.v.now in
    let e = c.row_at-row.ensures.0 in
    let a : leb x.least n ≡ true = le-leb x.least n (omega (arith, least_is r x e, c.if-n-row.false)) in
    let b : leb n x.most ≡ true = le-leb n x.most (omega (arith, most_is r x e, c.if-row-n.false)) in
    rw (a, b, and-true) (rw (rule_is r x e) at c.keeps.ensures)
