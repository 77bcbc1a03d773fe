-- `contents::whole` meets its contract. The octets from the next place on are whole where all are.
use native.Mathlib.Omega.{arith}
use mathlib.Core.Path.{refl, sym, ◌∙◌}
use Rattle.contents.proofs.Records.{whole_end, whole_cut, whole_on}
use Rattle.contents.proofs.whole.Goals as goal

pub loop-next-init : goal.loop-next-init
loop-next-init c = (omega arith, c.requires.0, refl)

pub returns-in_default : goal.returns-in_default
returns-in_default c =
    sym (whole_cut _ _ _ (omega arith) c.loop-next-test.true (sym c.in_default.is ∙ c.pass.ensures)) ∙ c.loop-next.invariant.2

pub loop-next-smaller : goal.loop-next-smaller
loop-next-smaller c =
    let f = whole_on _ _ _ (omega arith) c.loop-next-test.true _ (sym c.in-Some.is ∙ c.pass.ensures) in
    omega (arith, f.1, f.2)

pub loop-next-preserved : goal.loop-next-preserved
loop-next-preserved c =
    let f = whole_on _ _ _ (omega arith) c.loop-next-test.true _ (sym c.in-Some.is ∙ c.pass.ensures) in
    (omega (arith, f.1), f.2, f.0 ∙ c.loop-next.invariant.2)

pub returns : goal.returns
returns c = sym (whole_end _ _ _ c.loop-next-test.false) ∙ c.loop-next.invariant.2
