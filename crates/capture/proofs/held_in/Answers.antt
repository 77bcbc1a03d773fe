-- `capture::held_in` meets its contract.
use native.Mathlib.Omega.{arith}
use mathlib.Core.Path.{sym, ◌∙◌}
use Rattle.contents.proofs.Lengths.{found}
use Rattle.capture.proofs.Fronts.{name-told, no_name-told, value_found, value_cut, value-short}
use Rattle.capture.proofs.held_in.Goals as goal

pub returns-in_err-name : goal.returns-in_err-name
returns-in_err-name c = c.from_residual.ensures ∙ value-short _ _ _ (omega arith) (omega arith) (no_name-told _ _ (omega arith) (sym c.in_err-name.was ∙ c.name_in.ensures))

pub overflow_add-p : goal.overflow_add-p
overflow_add-p c =
    let f = name-told _ _ (omega arith) _ (sym c.in_ok-name.was ∙ c.name_in.ensures) in
    omega (arith, f.0.0, f.0.1)

pub sized_at-requires : goal.sized_at-requires
sized_at-requires c =
    let f = name-told _ _ (omega arith) _ (sym c.in_ok-name.was ∙ c.name_in.ensures) in
    (f.0.1, f.0.0, omega arith)

pub returns-in_err-value : goal.returns-in_err-value
returns-in_err-value c =
    let f = name-told _ _ (omega arith) _ (sym c.in_ok-name.was ∙ c.name_in.ensures) in
    c.from_residual-in_err-value.ensures ∙ value_cut _ _ _ f.0 (found _ _ _ _ f.0.1 f.0.0 _ (sym c.in_err-value.was ∙ c.sized_at.ensures))

pub returns : goal.returns
returns c =
    let f = name-told _ _ (omega arith) _ (sym c.in_ok-name.was ∙ c.name_in.ensures) in
    value_found _ _ _ _ _ f.0 f.1 (found _ _ _ _ f.0.1 f.0.0 _ (sym c.in_ok-value.was ∙ c.sized_at.ensures))
