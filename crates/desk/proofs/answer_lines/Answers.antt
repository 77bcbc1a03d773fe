-- `desk::answer_lines` meets its contract. What is left to print, behind what was, makes up all.
use borrow.Author.Tests.{not-true, not-false}
use Rattle.desk.proofs.Turns.{goes_on, onward, ended_on, due_now}
use native.Mathlib.Omega.{arith}
use Rattle.desk.proofs.answer_lines.Goals as goal

pub returns-then-not-scanned : goal.returns-then-not-scanned
returns-then-not-scanned c =
    (goes_on _ _ _ _ _ _ _ c.loop-page.invariant _ _ c.scan-scanned.ensures (not-true _ c.if-not-scanned.true) c.loop-page-test.true, c.scan-scanned.ensures.keeps)

pub loop-page-smaller : goal.loop-page-smaller
loop-page-smaller c =
    omega (arith, onward _ _ _ _ _ _ _ c.loop-page.invariant _ _ c.scan-scanned.ensures (not-false _ c.if-not-scanned.false), c.scan-scanned.ensures.inside)

pub loop-page-preserved : goal.loop-page-preserved
loop-page-preserved c =
    ended_on _ _ _ _ _ _ _ c.loop-page.invariant _ _ c.scan-scanned.ensures (not-false _ c.if-not-scanned.false) _ _ c.answer.ensures c.start-read.ensures

pub returns : goal.returns
returns c =
    let l = c.loop-page in
    (due_now _ _ _ _ _ _ _ l.invariant c.loop-page-test.false, l.invariant.keeps)
