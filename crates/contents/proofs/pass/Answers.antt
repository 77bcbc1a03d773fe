-- `contents::pass` meets its contract. The values left from the next place on end where all end.
use Prim.Native.Nat.{◌+◌, ◌-◌}
use native.Mathlib.Omega.{arith}
use mathlib.Core.Path.{◌≡◌, sym, ◌∙◌}
use Rattle.contents.proofs.Lengths.{found}
use Rattle.contents.proofs.Records.{pass_end, pass-short, pass_cut, pass_on}
use Rattle.contents.proofs.pass.Goals as goal

pub loop-init : goal.loop-init
loop-init c =
    let z : c.args.n - 0 ≡ c.args.n = omega arith in
    (omega arith, c.requires.0, rw z)

pub returns-then-to-next-lt-NAME_LENGTH : goal.returns-then-to-next-lt-NAME_LENGTH
returns-then-to-next-lt-NAME_LENGTH c = pass-short _ _ _ _ _ (omega arith) (omega arith) (omega arith) c.if-to-next-lt-NAME_LENGTH.true (omega arith) ∙ c.loop.invariant.2

pub returns-in_err-p : goal.returns-in_err-p
returns-in_err-p c =
    let f = found _ _ _ _ (omega arith) (omega arith) _ (sym c.in_err-p.was ∙ c.sized_at.ensures) in
    c.from_residual.ensures ∙ pass_cut _ _ _ _ _ (omega arith) (omega arith) (omega arith) f ∙ c.loop.invariant.2

pub loop-preserved : goal.loop-preserved
loop-preserved c =
    let f = found _ _ _ _ (omega arith) (omega arith) _ (sym c.in_ok-p.was ∙ c.sized_at.ensures) in
    let m : c.args.n - (c.loop.counter + 1) ≡ c.args.n - c.loop.counter - 1 = omega arith in (
      omega (arith, f.1, f.2),
      f.3,
      rw m (pass_on _ _ _ _ _ (omega arith) (omega arith) _ (omega arith) f ∙ c.loop.invariant.2),
    )

pub returns : goal.returns
returns c = pass_end _ _ _ _ _ (omega arith) (omega arith) (omega arith) ∙ c.loop.invariant.2
