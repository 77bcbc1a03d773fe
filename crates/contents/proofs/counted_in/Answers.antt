-- `contents::counted_in` meets its contract.
use native.Mathlib.Omega.{arith}
use mathlib.Core.Path.{sym, ◌∙◌}
use Rattle.contents.proofs.Counts.{no_count_lem, values_cut, no_second-count, no_errors, both_there}
use Rattle.contents.proofs.counted_in.Goals as goal

pub returns-then-to-from : goal.returns-then-to-from
returns-then-to-from c = no_count_lem _ _ _ (omega arith) (omega arith) c.if-to-from.true

pub returns-in_err-second : goal.returns-in_err-second
returns-in_err-second c =
    c.from_residual.ensures ∙ values_cut _ _ _ (omega arith) (omega arith) c.if-to-from.false (sym c.in_err-second.was ∙ c.pass.ensures)

pub returns-then-to-second : goal.returns-then-to-second
returns-then-to-second c =
    no_second-count _ _ _ (omega arith) (omega arith) c.if-to-from.false _ (sym c.in_ok-second.was ∙ c.pass.ensures) c.if-to-second.true

pub returns-then-to-errors : goal.returns-then-to-errors
returns-then-to-errors c =
    no_errors _ _ _ (omega arith) (omega arith) c.if-to-from.false _ (sym c.in_ok-second.was ∙ c.pass.ensures)
    _ c.if-to-second.false c.from-n.ensures c.if-to-errors.true

pub returns : goal.returns
returns c =
    both_there _ _ _ (omega arith) (omega arith) c.if-to-from.false _ (sym c.in_ok-second.was ∙ c.pass.ensures)
    _ c.if-to-second.false c.from-n.ensures c.if-to-errors.false
