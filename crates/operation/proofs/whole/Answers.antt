-- `operation::whole` meets its contract. The octets from the place on are whole where the list is, and break where it does.
use native.Mathlib.Omega.{arith}
use mathlib.Core.Path.{refl, sym, ap, ◌∙◌}
use Rattle.std.proofs.lemmas.Result.{err_from_is_err_and}
use Rattle.meaning.specs.Operation.{is_some}
use Rattle.operation.proofs.Turns.{turn_some, turn-malformed, turn_end, turn-broken, turn_breaks, is_whole_lem, breaks_at}
use Rattle.operation.proofs.Reading.{hands_malformed, hands_end, hands_some}
use Rattle.operation.proofs.whole.Goals as goal

pub loop-init : goal.loop-init
loop-init c = (ap (λ r. r.now) c.new-reader.ensures.0, omega (arith, c.new-reader.ensures.1), rw c.new-reader.ensures.1 refl, rw c.new-reader.ensures.1 refl)

pub loop-smaller : goal.loop-smaller
loop-smaller c =
    let o = c.in_ok-next_operation in
    let h = hands_some _ _ _ (λ i. omega (arith, c.type_inv.list i)) _ c.loop.invariant.0 _ _ o.ensures.handed (sym c.is_some.ensures ∙ c.if-is_some.true) o.ensures.place in
    omega (arith, h.1.0, h.1.1)

pub loop-preserved : goal.loop-preserved
loop-preserved c =
    let o = c.in_ok-next_operation in
    let i = c.loop.invariant in
    let h = hands_some _ _ _ (λ i. omega (arith, c.type_inv.list i)) _ c.loop.invariant.0 _ _ o.ensures.handed (sym c.is_some.ensures ∙ c.if-is_some.true) o.ensures.place in
    (ap (λ r. r.now) o.ensures.list ∙ i.0, h.1.1, sym (turn_some _ _ _ _ _ h.0) ∙ i.2, sym (turn-broken _ _ _ _ _ h.0) ∙ i.3)

pub returns-in_err-next_operation : goal.returns-in_err-next_operation
returns-in_err-next_operation c =
    let i = c.loop.invariant in
    let h = hands_malformed _ _ _ (λ i. omega (arith, c.type_inv.list i)) _ c.loop.invariant.0 _ c.in_err-next_operation.ensures.handed in
    let r = err_from_is_err_and c.from_residual.result c.from_residual.ensures.1 in
    rw (r.1, r.2) (breaks_at _ _ _ _ i.1 (sym i.2 ∙ ap is_some (turn-malformed _ _ _ _ h.0)) (sym i.3 ∙ turn_breaks _ _ _ _ h.0) h.1)

pub returns : goal.returns
returns c =
    let o = c.in_ok-next_operation in
    let i = c.loop.invariant in
    let h = hands_end _ _ _ (λ i. omega (arith, c.type_inv.list i)) _ c.loop.invariant.0 _ o.ensures.handed (sym c.is_some.ensures ∙ c.if-is_some.false) in
    is_whole_lem _ _ (sym i.2 ∙ ap is_some (turn_end _ _ _ h.0))
