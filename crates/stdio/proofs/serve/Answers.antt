-- `stdio::serve` meets its contract.
use native.Mathlib.Omega.{arith}
use mathlib.Core.Path.{refl, sym, ◌∙◌}
use Rattle.stdio.proofs.Taking.{wanting_none, faulty_last, batch-short}
use Rattle.stdio.proofs.serve.Goals as goal

pub printed-requires : goal.printed-requires
printed-requires g c = batch-short _ _ _ _ _ _ c.take_batch-batch.ensures.batched

pub returns-in_default-clause-serves : goal.returns-in_default-clause-serves
returns-in_default-clause-serves g c =
    let P = g.P.TakePieces in
    let a = c.take_batch-batch in
    let held = c.args.held.now in
    let b = rw c.in_default.is at a.ensures.batched in
    faulty_last P.program held (record { state = P.state c.args.port.now; from = 0 }) (record { state = P.state a.new.port; from = b.0 }) (b.1.same ∙ c.loop-next.invariant.3) (b.1.stopped refl)

pub returns-then-at-lt-DUE-clause-serves : goal.returns-then-at-lt-DUE-clause-serves
returns-then-at-lt-DUE-clause-serves g c =
    let P = g.P.TakePieces in
    let a = c.take_batch-batch in
    let held = c.args.held.now in
    let b = rw c.in-Some.is at a.ensures.batched in
    let w = b.all refl (omega (arith, c.if-at-lt-DUE.true)) in
    (sym (b.same ∙ c.loop-next.invariant.3) ∙ wanting_none P.program held (record { state = P.state a.new.port; from = c.in-Some.next }) w, b.within, w)
