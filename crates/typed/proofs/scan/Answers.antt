-- `typed::scan` meets its contract.
use native.Mathlib.Omega.{arith}
use mathlib.Core.Path.{sym, ◌∙◌}
use borrow.Author.Rules.{rules}
use Rattle.typed.proofs.Scanning.{goes_start, goes_one, goes_far, scan_feed, scan_end}
use Rattle.typed.proofs.scan.Goals as goal

pub loop-at-init : goal.loop-at-init
loop-at-init c =
    goes_start c.args.room.now c.args.line c.args.held.now c.args.from c.requires.0 c.requires.1

pub shape_of-room-then-c-eq10 : goal.shape_of-room-then-c-eq10
shape_of-room-then-c-eq10 c =
    c.loop-at.invariant.keeps.long ∙ sym c.requires.0.long

pub returns-then-c-eq10 : goal.returns-then-c-eq10
returns-then-c-eq10 c = scan_feed c.loop-at.invariant c.loop-at-test.true c.if-c-eq10.true

pub take-taken-requires : goal.take-taken-requires
take-taken-requires c = c.loop-at.invariant.keeps

pub take_run-run-requires : goal.take_run-run-requires
take_run-run-requires c = (c.take-taken.ensures.keeps, search rules)

pub loop-at-smaller : goal.loop-at-smaller
loop-at-smaller c =
    omega (arith, c.take_run-run.ensures.onward, c.loop-at-test.true)

pub loop-at-preserved : goal.loop-at-preserved
loop-at-preserved c =
    goes_far (goes_one c.loop-at.invariant c.loop-at-test.true c.if-c-eq10.false c.take-taken.ensures) c.take_run-run.ensures

pub shape_of-room : goal.shape_of-room
shape_of-room c = c.loop-at.invariant.keeps.long ∙ sym c.requires.0.long

pub returns : goal.returns
returns c = scan_end c.loop-at.invariant c.loop-at-test.false
