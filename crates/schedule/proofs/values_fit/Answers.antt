-- `schedule::values_fit` meets its contract.
use Rattle.std.proofs.Common.{sym, ◌∙◌, arith, rules}
use mathlib.Core.Bool.{false≢true}
use Rattle.meaning.proofs.Tests.{not-true}
use Rattle.schedule.proofs.Blocks.{fit_opened, fit_found}
use Rattle.schedule.proofs.values_fit.Goals as goal

pub returns-then-n-lt1 : goal.returns-then-n-lt1
returns-then-n-lt1 c =
    let a = c.args in
    sym (not-true _ (λ e.
    let f = fit_opened a.base.now a.count.now a.list.now a.ratio.now c.requires.0 c.requires.1 c.requires.2 e in
    omega (arith, f.least, c.if-n-lt1.true)))

pub returns-then-n-gt-ENTRIES_MOST : goal.returns-then-n-gt-ENTRIES_MOST
returns-then-n-gt-ENTRIES_MOST c =
    let a = c.args in
    sym (not-true _ (λ e.
    let f = fit_opened a.base.now a.count.now a.list.now a.ratio.now c.requires.0 c.requires.1 c.requires.2 e in
    omega (arith, f.most, c.if-n-gt-ENTRIES_MOST.true)))

pub returns-then-not-ratio_ok : goal.returns-then-not-ratio_ok
returns-then-not-ratio_ok c =
    let a = c.args in
    sym (not-true _ (λ e.
    let f = fit_opened a.base.now a.count.now a.list.now a.ratio.now c.requires.0 c.requires.1 c.requires.2 e in
    false≢true (sym (c.if-not-ratio_ok.true) ∙ c.ratio_ok.ensures ∙ f.denominator)))

pub as_number-requires : goal.as_number-requires
as_number-requires c = rw c.requires.1

pub fits_cycle-requires : goal.fits_cycle-requires
fits_cycle-requires c =
    (search rules, sym c.ratio_ok.ensures ∙ c.if-not-ratio_ok.false)

pub returns : goal.returns
returns c =
    let a = c.args in
    let d = sym c.ratio_ok.ensures ∙ c.if-not-ratio_ok.false in
    fit_found a.base.now a.count.now a.list.now a.ratio.now c.requires.0 c.requires.1 c.requires.2
    c.time_ok.ensures
    c.as_number.ensures.0
    c.entries_ok-ok.ensures
    c.intervals-sum.ensures
    c.fits_cycle.ensures
    d
    c.if-n-lt1.false
    c.if-n-gt-ENTRIES_MOST.false
