-- `capture::failed_in` meets its contract.
use native.Mathlib.Omega.{arith}
use mathlib.Core.Path.{sym, ◌∙◌}
use mathlib.Core.Logic.{inr}
use Rattle.capture.proofs.Fronts.{name-told, failed_no_name, failed_found, failed-short}
use Rattle.capture.proofs.failed_in.Goals as goal

pub returns-in_err-name : goal.returns-in_err-name
returns-in_err-name c = c.from_residual.ensures ∙ failed_no_name _ _ (omega arith) (sym c.in_err-name.was ∙ c.name_in.ensures)

pub returns-then-p-from-lt-ERROR_LENGTH : goal.returns-then-p-from-lt-ERROR_LENGTH
returns-then-p-from-lt-ERROR_LENGTH c =
    let f = name-told _ _ (omega arith) _ (sym c.in_ok-name.was ∙ c.name_in.ensures) in
    failed-short _ _ (omega arith) (inr (f.0.0, c.if-p-from-lt-ERROR_LENGTH.true))

pub bounds-s-from : goal.bounds-s-from
bounds-s-from c =
    let f = name-told _ _ (omega arith) _ (sym c.in_ok-name.was ∙ c.name_in.ensures) in
    omega (arith, f.0.0)

pub returns : goal.returns
returns c =
    let f = name-told _ _ (omega arith) _ (sym c.in_ok-name.was ∙ c.name_in.ensures) in
    failed_found _ _ _ (f.0.0, omega (arith, c.if-p-from-lt-ERROR_LENGTH.false)) f.1
