-- `contents::walk` meets its contract. What is to be read from the place on is what was to be read behind the type.
use native.Mathlib.Omega.{arith}
use mathlib.Core.Path.{refl, sym, ◌∙◌}
use Rattle.meaning.specs.Capture.{elements_of}
use Rattle.contents.proofs.Lengths.{found}
use Rattle.contents.proofs.Elements.{walk_cut, walk_on, walked_cut, walked_all}
use Rattle.contents.proofs.walk.Goals as goal

pub loop-at-init : goal.loop-at-init
unfolding elements_of
loop-at-init c = (omega arith, c.requires, refl)

pub returns-in_err-p : goal.returns-in_err-p
returns-in_err-p c =
    let f = found _ _ _ _ (omega arith) (omega arith) _ (sym c.in_err-p.was ∙ c.sized_at.ensures) in
    c.from_residual.ensures ∙ walked_cut _ c.loop-at.k c.loop-at.at c.loop-at.invariant.2
    (walk_cut _ _ _ _ c.loop-at-test.true c.length_octets.ensures.0 f)

pub loop-at-smaller : goal.loop-at-smaller
loop-at-smaller c =
    let f = found _ _ _ _ (omega arith) (omega arith) _ (sym c.in_ok-p.was ∙ c.sized_at.ensures) in
    omega (arith, f.1, f.2, f.3)

pub loop-at-preserved : goal.loop-at-preserved
loop-at-preserved c =
    let f = found _ _ _ _ (omega arith) (omega arith) _ (sym c.in_ok-p.was ∙ c.sized_at.ensures) in (
      omega (arith, f.1, f.2),
      omega (arith, f.2, f.3),
      walk_on _ _ _ _ c.loop-at-test.true c.length_octets.ensures.0 _ _ f c.keep-k.ensures ∙ c.loop-at.invariant.2,
    )

pub returns : goal.returns
returns c = walked_all _ _ _ c.loop-at.invariant.2 c.loop-at-test.false
