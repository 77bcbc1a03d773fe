-- `operation::operation_at` meets its contract.
use native.Mathlib.Omega.{arith}
use mathlib.Core.Path.{◌∙◌}
use Rattle.operation.specs.Handing.{found_at}
use Rattle.operation.proofs.Found.{past, has_value, capabilities_found, name_cut, read_found, subscribe_found, unsubscribe_found}
use Rattle.operation.proofs.operation_at.Goals as goal
use Rattle.operation.proofs.operation_at.Goals.{in-2, in-4, in-5}

pub returns-then-list-at : goal.returns-then-list-at
returns-then-list-at c = past _ _ _ c.if-list-at.true

pub returns-then-code-eq-CODE_CAPABILITIES : goal.returns-then-code-eq-CODE_CAPABILITIES
returns-then-code-eq-CODE_CAPABILITIES c = capabilities_found _ _ _ c.if-list-at.false c.if-code-eq-CODE_CAPABILITIES.true

pub returns-then-left-lt3 : goal.returns-then-left-lt3
unfolding found_at
returns-then-left-lt3 c =
    c.malformed_at.ensures ∙ name_cut _ _ _ c.if-list-at.false c.if-code-eq-CODE_CAPABILITIES.false c.if-left-lt3.true

pub valued_at-requires : goal.valued_at-requires
valued_at-requires c =
    (omega (arith, c.if-left-lt3.false), has_value _ c.if-code-eq-CODE_CAPABILITIES.false (λ e. omega arith) (λ e. omega arith) (λ e. omega arith))

pub returns : goal.returns
returns c =
    let n = c.get16-name in
    elim c.match-code.branch [
      | in-2 w ↦ read_found _ _ _ c.if-list-at.false n.result _ c.if-left-lt3.false n.ensures.0 w.in-2.is w.op-is
      | in-4 w ↦ subscribe_found _ _ _ c.if-list-at.false n.result _ c.if-left-lt3.false n.ensures.0 w.in-4.is w.op-is
      | in-5 w ↦ unsubscribe_found _ _ _ c.if-list-at.false n.result _ c.if-left-lt3.false n.ensures.0 w.in-5.is w.op-is
    ]
