-- `schedule::fit_together` meets its contract.
use Rattle.std.proofs.Common.{ℕ, leb, sym, ap, ◌∙◌, arith}
use Rattle.meaning.specs.Block.{cycle}
use Rattle.schedule.proofs.Blocks.{permitted-count, permitted-list, permitted-ratio, fit_none, fit_unheld, fit_held}
use Rattle.schedule.proofs.fit_together.Goals as goal

pub returns-then-n-lt1 : goal.returns-then-n-lt1
returns-then-n-lt1 c =
    let a = c.args in
    sym (fit_none a.count.now a.list.now a.ratio.now c.if-n-lt1.true)

pub as_number-requires : goal.as_number-requires
as_number-requires c =
    rw (permitted-count c.args.count.now c.requires.0).0

pub returns-then-as_number-n : goal.returns-then-as_number-n
returns-then-as_number-n c =
    let a = c.args in
    sym (fit_unheld a.count.now a.list.now a.ratio.now c.if-n-lt1.false c.as_number.ensures.0 c.if-as_number-n.true)

pub intervals-sum-requires : goal.intervals-sum-requires
intervals-sum-requires c =
    omega (arith, (permitted-list c.args.list.now c.requires.1).0)

pub fits_cycle-requires : goal.fits_cycle-requires
fits_cycle-requires c =
    permitted-ratio c.args.ratio.now c.requires.2

pub returns : goal.returns
returns c =
    let a = c.args in
    let found = fit_held a.count.now a.list.now a.ratio.now c.if-n-lt1.false c.as_number.ensures.0 c.if-as_number-n.false in
    c.fits_cycle.ensures ∙ ap (λ (s : ℕ). leb s (cycle a.ratio.now)) c.intervals-sum.ensures ∙ sym found
