-- `operation::valued_at` meets its contract.
use native.Mathlib.Omega.{arith}
use mathlib.Core.Path.{sym, ◌∙◌}
use Rattle.operation.specs.Handing.{found_at}
use Rattle.operation.proofs.Found.{length-short, value-short, set_found, selective_read_found, selective_subscribe_found, selective_unsubscribe_found, delete_entry_found, missing_found, other_found}
use Rattle.operation.proofs.valued_at.Goals as goal
use Rattle.operation.proofs.valued_at.Goals.{in-3, in-6, in-7, in-8, in-9}

pub returns-then-left-lt5 : goal.returns-then-left-lt5
unfolding found_at
returns-then-left-lt5 c =
    c.malformed_at.ensures ∙ length-short _ _ _ (omega (arith, c.requires.0)) c.requires.1 c.if-left-lt5.true

pub returns-then-left-size : goal.returns-then-left-size
unfolding found_at
returns-then-left-size c =
    let z = c.get16-size in
    c.malformed_at-then-left-size.ensures ∙ value-short _ _ _ (omega (arith, c.requires.0)) z.result c.requires.1 z.ensures.0 (omega (arith, c.if-left-size.true))

pub returns-then-not-has_code : goal.returns-then-not-has_code
unfolding found_at
returns-then-not-has_code c =
    c.malformed_at-then-not-has_code.ensures ∙ missing_found _ _ _ (omega (arith, c.requires.0)) (sym c.has_code.ensures ∙ c.if-not-has_code.true)

pub returns-in_default : goal.returns-in_default
unfolding found_at
returns-in_default c =
    c.malformed_at-in_default.ensures ∙ other_found _ _ _ (omega (arith, c.requires.0)) (sym c.has_code.ensures ∙ c.if-not-has_code.false)
    c.requires.1 (λ e. omega arith) (λ e. omega arith) (λ e. omega arith) (λ e. omega arith) (λ e. omega arith)

pub returns : goal.returns
returns c =
    let n = c.get16-name in
    let z = c.get16-size in
    let has = sym c.has_code.ensures ∙ c.if-not-has_code.false in
    elim c.match-code.branch [
      | in-3 w ↦ set_found _ _ _ (omega (arith, c.requires.0)) n.result _ z.result _ (omega arith) n.ensures.0 z.ensures.0 (omega (arith, c.if-left-size.false)) has w.in-3.is w.op-is
      | in-6 w ↦ selective_read_found _ _ _ (omega (arith, c.requires.0)) n.result _ z.result _ (omega arith) n.ensures.0 z.ensures.0 (omega (arith, c.if-left-size.false)) has w.in-6.is w.op-is
      | in-7 w ↦ selective_subscribe_found _ _ _ (omega (arith, c.requires.0)) n.result _ z.result _ (omega arith) n.ensures.0 z.ensures.0 (omega (arith, c.if-left-size.false)) has w.in-7.is w.op-is
      | in-8 w ↦ selective_unsubscribe_found _ _ _ (omega (arith, c.requires.0)) n.result _ z.result _ (omega arith) n.ensures.0 z.ensures.0 (omega (arith, c.if-left-size.false)) has w.in-8.is w.op-is
      | in-9 w ↦ delete_entry_found _ _ _ (omega (arith, c.requires.0)) n.result _ z.result _ (omega arith) n.ensures.0 z.ensures.0 (omega (arith, c.if-left-size.false)) has w.in-9.is w.op-is
    ]
