-- `capture::next` meets its contract.
use native.Mathlib.Omega.{arith}
use mathlib.Core.Path.{sym, ◌∙◌}
use Rattle.capture.specs.Handing.{handed_name, handed_value, handed_read_error, handed_update, handed_update_error, handed_long_update}
use Rattle.capture.proofs.CutShort.{cut_short, taken}
use Rattle.capture.proofs.Fronts.{name-told, failed-told}
use Rattle.capture.proofs.Handouts.{name_handed, no_name_handed, value_handed, no_value_handed, error_handed, no_error_handed, name-next, value-next, read_error_next, update-next, update_error_next, long-update-next, nothing_next}
use Rattle.capture.proofs.next.Goals as goal

pub returns-in_err-name : goal.returns-in_err-name
unfolding handed_name
returns-in_err-name c =
    let n = cut_short c.ok_or.ensures.value c.from_residual.ensures.1 c.in_err-name.was in
    n.0 ∙ no_name_handed _ _ _ (omega arith) (n.1 ∙ c.name_in.ensures) ∙ name-next _ _ c.if-c.true

pub overflow_add-left : goal.overflow_add-left
overflow_add-left c =
    let t = name-told _ _ (omega arith) _ (taken c.ok_or.ensures.value c.in_ok-name.was ∙ c.name_in.ensures) in
    omega (arith, t.0.0, t.0.1)

pub returns-then-c : goal.returns-then-c
unfolding handed_name
returns-then-c c =
    name_handed _ _ _ (omega arith) _ (taken c.ok_or.ensures.value c.in_ok-name.was ∙ c.name_in.ensures) ∙ name-next _ _ c.if-c.true

pub returns-in_err-name-2 : goal.returns-in_err-name-2
unfolding handed_value
returns-in_err-name-2 c =
    let n = cut_short c.ok_or-then-c-2.ensures.value c.from_residual-in_err-name-2.ensures.1 c.in_err-name-2.was in
    n.0 ∙ no_value_handed _ _ _ (omega arith) _ _ (omega arith) (n.1 ∙ c.held_in.ensures) ∙ value-next _ _ c.if-c.false c.if-c-2.true

pub returns-then-c-2 : goal.returns-then-c-2
unfolding handed_value
returns-then-c-2 c =
    value_handed _ _ _ (omega arith) _ _ (omega arith) _ _ (taken c.ok_or-then-c-2.ensures.value c.in_ok-name-2.was ∙ c.held_in.ensures) ∙ value-next _ _ c.if-c.false c.if-c-2.true

pub returns-in_err-name-3 : goal.returns-in_err-name-3
unfolding handed_read_error
returns-in_err-name-3 c =
    let n = cut_short c.ok_or-then-c-3.ensures.value c.from_residual-in_err-name-3.ensures.1 c.in_err-name-3.was in
    n.0 ∙ no_error_handed _ _ _ (omega arith) _ _ (n.1 ∙ c.failed_in.ensures) ∙ read_error_next _ _ c.if-c.false c.if-c-2.false c.if-c-3.true

pub overflow_add-left-then-c-3 : goal.overflow_add-left-then-c-3
overflow_add-left-then-c-3 c =
    let t = failed-told _ _ (omega arith) _ _ (taken c.ok_or-then-c-3.ensures.value c.in_ok-name-3.was ∙ c.failed_in.ensures) in
    omega (arith, t.0.0, t.0.1)

pub returns-then-c-3 : goal.returns-then-c-3
unfolding handed_read_error
returns-then-c-3 c =
    error_handed _ _ _ (omega arith) _ _ _ _ _ (taken c.ok_or-then-c-3.ensures.value c.in_ok-name-3.was ∙ c.failed_in.ensures) c.read_cause-cause.ensures ∙ read_error_next _ _ c.if-c.false c.if-c-2.false c.if-c-3.true

pub returns-in_err-name-4 : goal.returns-in_err-name-4
unfolding handed_update
returns-in_err-name-4 c =
    let n = cut_short c.ok_or-then-c-4.ensures.value c.from_residual-in_err-name-4.ensures.1 c.in_err-name-4.was in
    n.0 ∙ no_value_handed _ _ _ (omega arith) _ _ (omega arith) (n.1 ∙ c.held_in-then-c-4.ensures) ∙ update-next _ _ c.if-c.false c.if-c-2.false c.if-c-3.false c.if-c-4.true

pub returns-then-c-4 : goal.returns-then-c-4
unfolding handed_update
returns-then-c-4 c =
    value_handed _ _ _ (omega arith) _ _ (omega arith) _ _ (taken c.ok_or-then-c-4.ensures.value c.in_ok-name-4.was ∙ c.held_in-then-c-4.ensures) ∙ update-next _ _ c.if-c.false c.if-c-2.false c.if-c-3.false c.if-c-4.true

pub returns-in_err-name-5 : goal.returns-in_err-name-5
unfolding handed_update_error
returns-in_err-name-5 c =
    let n = cut_short c.ok_or-then-c-5.ensures.value c.from_residual-in_err-name-5.ensures.1 c.in_err-name-5.was in
    n.0 ∙ no_error_handed _ _ _ (omega arith) _ _ (n.1 ∙ c.failed_in-then-c-5.ensures) ∙ update_error_next _ _ c.if-c.false c.if-c-2.false c.if-c-3.false c.if-c-4.false c.if-c-5.true

pub overflow_add-left-then-c-5 : goal.overflow_add-left-then-c-5
overflow_add-left-then-c-5 c =
    let t = failed-told _ _ (omega arith) _ _ (taken c.ok_or-then-c-5.ensures.value c.in_ok-name-5.was ∙ c.failed_in-then-c-5.ensures) in
    omega (arith, t.0.0, t.0.1)

pub returns-then-c-5 : goal.returns-then-c-5
unfolding handed_update_error
returns-then-c-5 c =
    error_handed _ _ _ (omega arith) _ _ _ _ _ (taken c.ok_or-then-c-5.ensures.value c.in_ok-name-5.was ∙ c.failed_in-then-c-5.ensures) c.update_cause-cause.ensures ∙ update_error_next _ _ c.if-c.false c.if-c-2.false c.if-c-3.false c.if-c-4.false c.if-c-5.true

pub returns-in_err-name-6 : goal.returns-in_err-name-6
unfolding handed_long_update
returns-in_err-name-6 c =
    let n = cut_short c.ok_or-then-c-6.ensures.value c.from_residual-in_err-name-6.ensures.1 c.in_err-name-6.was in
    n.0 ∙ no_value_handed _ _ _ (omega arith) _ _ (omega arith) (n.1 ∙ c.held_in-then-c-6.ensures) ∙ long-update-next _ _ c.if-c.false c.if-c-2.false c.if-c-3.false c.if-c-4.false c.if-c-5.false c.if-c-6.true

pub returns-then-c-6 : goal.returns-then-c-6
unfolding handed_long_update
returns-then-c-6 c =
    value_handed _ _ _ (omega arith) _ _ (omega arith) _ _ (taken c.ok_or-then-c-6.ensures.value c.in_ok-name-6.was ∙ c.held_in-then-c-6.ensures) ∙ long-update-next _ _ c.if-c.false c.if-c-2.false c.if-c-3.false c.if-c-4.false c.if-c-5.false c.if-c-6.true

pub returns : goal.returns
returns c = nothing_next _ _ c.if-c.false c.if-c-2.false c.if-c-3.false c.if-c-4.false c.if-c-5.false c.if-c-6.false
