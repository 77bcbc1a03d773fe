-- `values::entries_ok` meets its contract: the entries passed and those left give what the whole list gives.
use mathlib.Core.Path.{ap, ◌∙◌}
use mathlib.Core.Bool.{and-true}
use lib.ListN.{drop_of_length-le}
use Rattle.meaning.specs.Block.{each_ok}
use Rattle.values.proofs.Walks.{each_turn, entries_are}
use Rattle.values.proofs.entries_ok.Goals as goal

pub loop-e-preserved : goal.loop-e-preserved
loop-e-preserved c =
    let l = c.loop-e in
    rw c.entry_ok-ok.ensures (each_turn c.as_chunks.result.0.now l.e-index c.loop-e-test.true l.ok ∙ l.invariant)

pub returns : goal.returns
unfolding each_ok
returns c =
    (rw (drop_of_length-le _ c.loop-e-test.false, and-true) at c.loop-e.invariant)
    ∙ ap each_ok (c.as_chunks.ensures.front ∙ entries_are c.args.v.now)
