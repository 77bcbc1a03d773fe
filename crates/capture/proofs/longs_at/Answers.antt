-- `capture::longs_at` meets its contract.
use native.Mathlib.Omega.{arith}
use mathlib.Core.Path.{sym, ◌∙◌}
use Rattle.contents.proofs.Lengths.{found}
use Rattle.capture.proofs.Openings.{longs_none, longs_cut, longs_over, longs_broken, longs_left}
use Rattle.capture.proofs.longs_at.Goals as goal

pub returns-then-at-to : goal.returns-then-at-to
returns-then-at-to c = longs_none _ _ _ c.if-at-to.true

pub returns-in_err-p : goal.returns-in_err-p
returns-in_err-p c =
    c.from_residual.ensures ∙ longs_cut _ _ _ c.if-at-to.false (sym c.in_err-p.was ∙ c.sized_at.ensures)

pub returns-then-p-to : goal.returns-then-p-to
returns-then-p-to c =
    longs_over _ _ _ c.if-at-to.false _ (sym c.in_ok-p.was ∙ c.sized_at.ensures) c.if-p-to.true

pub whole-requires : goal.whole-requires
whole-requires c =
    let f = found _ _ _ _ (omega arith) (omega arith) _ (sym c.in_ok-p.was ∙ c.sized_at.ensures) in
    omega (arith, f.2, f.3)

pub returns-then-not-whole : goal.returns-then-not-whole
returns-then-not-whole c =
    longs_broken _ _ _ c.if-at-to.false _ (sym c.in_ok-p.was ∙ c.sized_at.ensures) c.if-p-to.false
    (sym (c.if-not-whole.true) ∙ c.whole.ensures)

pub returns : goal.returns
returns c =
    longs_left _ _ _ c.if-at-to.false _ (sym c.in_ok-p.was ∙ c.sized_at.ensures) c.if-p-to.false
    (sym (c.if-not-whole.false) ∙ c.whole.ensures)
