-- `typed::take_pairs` meets its contract.
use native.Mathlib.Omega.{arith}
use mathlib.Core.Path.{◌∙◌}
use Rattle.typed.proofs.Signs.{decoded, both_digits}
use Rattle.typed.proofs.Pairs.{goes_pair}
use Rattle.typed.proofs.take_pairs.Goals as goal

pub overflow_mul-h : goal.overflow_mul-h
overflow_mul-h c =
    let small = both_digits c.digit-h.result c.digit-d.result c.if-h-d-gt15.false in
    omega (arith, small.0, small.1)

pub overflow_add-h : goal.overflow_add-h
overflow_add-h c =
    let small = both_digits c.digit-h.result c.digit-d.result c.if-h-d-gt15.false in
    omega (arith, small.0, small.1)

pub overflow_cast-h : goal.overflow_cast-h
overflow_cast-h c =
    let small = both_digits c.digit-h.result c.digit-d.result c.if-h-d-gt15.false in
    omega (arith, small.0, small.1)

pub loop-at-preserved : goal.loop-at-preserved
loop-at-preserved c =
    let small = both_digits c.digit-h.result c.digit-d.result c.if-h-d-gt15.false in
    goes_pair c.loop-at.kept c.loop-at.at c.loop-at.invariant c.digit-h.result c.digit-d.result (omega arith)
    (decoded _ _ c.digit-h.ensures small.0) (decoded _ _ c.digit-d.ensures small.1) (c.keep-kept.auto.room ∙ c.loop-at.invariant.keeps.long) c.keep-kept.ensures
