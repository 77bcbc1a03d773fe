-- `capture::open_result` meets its contract.
use native.Mathlib.Omega.{arith}
use mathlib.Core.Path.{sym, ◌∙◌}
use Rattle.contents.proofs.Counts.{counted_by}
use Rattle.capture.proofs.Openings.{result_unread, result_cut, result-broken, result_left}
use Rattle.capture.proofs.open_result.Goals as goal

pub returns-then-p-eq0 : goal.returns-then-p-eq0
returns-then-p-eq0 c = result_unread _ _ _ c.if-p-eq0.true

pub returns-in_err-counted : goal.returns-in_err-counted
returns-in_err-counted c =
    c.from_residual.ensures ∙ result_cut _ _ _ c.if-p-eq0.false (sym c.in_err-counted.was ∙ c.counted_in.ensures)

pub longs_at-requires : goal.longs_at-requires
longs_at-requires c =
    (counted_by _ _ _ _ (sym c.in_ok-counted.was ∙ c.counted_in.ensures), omega arith)

pub returns-in_err-long_updates : goal.returns-in_err-long_updates
returns-in_err-long_updates c =
    c.from_residual-in_err-long_updates.ensures ∙ result-broken _ _ _ c.if-p-eq0.false _ _ (sym c.in_ok-counted.was ∙ c.counted_in.ensures) (sym c.in_err-long_updates.was ∙ c.longs_at.ensures)

pub returns : goal.returns
returns c =
    result_left _ _ _ c.if-p-eq0.false _ _ (sym c.in_ok-counted.was ∙ c.counted_in.ensures) _ (sym c.in_ok-long_updates.was ∙ c.longs_at.ensures)
