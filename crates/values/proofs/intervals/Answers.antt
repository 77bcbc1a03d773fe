-- `values::intervals` meets its contract: the intervals passed and those left give what the whole list gives.
use native.Mathlib.Omega.{arith}
use native.Mathlib.Nat.{add-zero}
use mathlib.Core.Path.{ap, ◌∙◌}
use lib.ListN.{drop_of_length-le}
use Rattle.meaning.specs.Block.{interval, intervals}
use Rattle.values.proofs.Walks.{intervals-turn, entries_are}
use Rattle.values.proofs.intervals.Goals as goal

pub loop-e-preserved : goal.loop-e-preserved
unfolding interval
loop-e-preserved c =
    let l = c.loop-e in
    let t = intervals-turn c.as_chunks.result.0.now l.e-index c.loop-e-test.true in
    (omega (arith, c.get32-sum.ensures.0, t, l.invariant.0), omega (arith, c.get32-sum.ensures.1, l.invariant.1))

pub returns : goal.returns
unfolding intervals
returns c =
    (rw (drop_of_length-le _ c.loop-e-test.false, add-zero) at c.loop-e.invariant.0)
    ∙ ap intervals (c.as_chunks.ensures.front ∙ entries_are c.args.v.now)
