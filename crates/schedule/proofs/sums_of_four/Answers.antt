-- `schedule::sums_of_four` meets its contract.
use Rattle.std.proofs.Common.{ap, ◌∙◌}
use Rattle.meaning.specs.Block.{Sums, sums_of}
use Rattle.schedule.proofs.Weights.{four_sums}
use Rattle.schedule.proofs.sums_of_four.Goals as goal

pub returns : goal.returns
unfolding sums_of
returns c =
    let a = c.args in
    let e = four_sums a.base.now a.count.now a.list.now a.ratio.now c.on-a.ensures c.on-b.ensures c.on-c.ensures in
    (c.on.ensures.0 ∙ ap (λ (r : Sums). r.first) e, c.on.ensures.1 ∙ ap (λ (r : Sums). r.second) e)
