-- `capture::open_status` meets its contract.
use native.Mathlib.Omega.{arith}
use mathlib.Core.Path.{sym, ◌∙◌}
use Rattle.capture.proofs.Openings.{status_unread, status_cut, status_over, status_left}
use Rattle.capture.proofs.open_status.Goals as goal

pub returns-then-p-eq0 : goal.returns-then-p-eq0
returns-then-p-eq0 c = status_unread _ _ _ c.if-p-eq0.true

pub returns-in_err-counted : goal.returns-in_err-counted
returns-in_err-counted c =
    c.from_residual.ensures ∙ status_cut _ _ _ c.if-p-eq0.false (sym c.in_err-counted.was ∙ c.counted_in.ensures)

pub returns-then-counted-p : goal.returns-then-counted-p
returns-then-counted-p c =
    status_over _ _ _ c.if-p-eq0.false _ _ (sym c.in_ok-counted.was ∙ c.counted_in.ensures) (λ x. omega arith)

pub returns : goal.returns
returns c =
    status_left _ _ _ c.if-p-eq0.false _ _ (sym c.in_ok-counted.was ∙ c.counted_in.ensures) c.if-counted-p.false
