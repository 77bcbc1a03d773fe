-- `schedule::sums_agree` meets its contract.
use Rattle.std.proofs.Common.{length, arith, eq-eqb, ne_eqb}
use Rattle.meaning.specs.Block.{joined_block}
use Rattle.schedule.proofs.Blocks.{sums_spelt}
use Rattle.schedule.proofs.sums_agree.Goals as goal

pub returns-then-value-ne-SUMS_LENGTH : goal.returns-then-value-ne-SUMS_LENGTH
returns-then-value-ne-SUMS_LENGTH c = rw (ne_eqb _ _ c.if-value-ne-SUMS_LENGTH.true)

pub returns : goal.returns
returns c =
    let v = c.args.value.now in
    let n = c.if-value-ne-SUMS_LENGTH.false in
    rw (c.get16.ensures.0, c.from.ensures, c.sums_of_four-s.ensures.0, c.get16-2.ensures.0, c.from-2.ensures, c.sums_of_four-s.ensures.1, eq-eqb (length v) 4 n)
    (sums_spelt v (joined_block c.args.base.now c.args.count.now c.args.list.now c.args.ratio.now) n (λ i. omega (arith, c.type_inv.value i)))
