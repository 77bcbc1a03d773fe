-- `capture::open_notification` meets its contract.
use native.Mathlib.Omega.{arith}
use mathlib.Core.Path.{sym, ◌∙◌}
use Rattle.contents.proofs.Lengths.{found}
use Rattle.capture.proofs.Openings.{notification_cut, notification_opened}
use Rattle.capture.proofs.open_notification.Goals as goal

pub returns-in_err-p : goal.returns-in_err-p
returns-in_err-p c = c.from_residual.ensures ∙ notification_cut _ (sym c.in_err-p.was ∙ c.sized_at.ensures)

pub open_status-requires : goal.open_status-requires
open_status-requires c =
    let f = found _ _ _ _ (omega arith) (omega arith) _ (sym c.in_ok-p.was ∙ c.sized_at.ensures) in
    (f.2, f.3)

pub returns : goal.returns
returns c =
    c.open_status.ensures ∙ notification_opened _ _ _ (sym c.in_ok-p.was ∙ c.sized_at.ensures) c.nothing_left.ensures
