-- `notification::turn` meets its contract.
use Prim.Native.Nat.{ℕ}
use native.Mathlib.Numerals.{add-one}
use native.Mathlib.Omega.{arith}
use mathlib.Core.Path.{◌≡◌, refl, ap, ◌∙◌}
use Rattle.meaning.specs.Calls.{turned}
use Rattle.notification.specs.Moments.{moment_of}
use Rattle.notification.proofs.Turning.{entry_turned}
use Rattle.notification.proofs.turn.Goals as goal

pub loop-k-init : goal.loop-k-init
unfolding turned
loop-k-init c = refl

pub flags_after-f-requires : goal.flags_after-f-requires
flags_after-f-requires c = c.flags.ensures.1

pub loop-k-preserved : goal.loop-k-preserved
unfolding turned
loop-k-preserved c =
    let p = c.put_flags in
    let l = c.loop-k in
    entry_turned _ l.m l.k c.flags.ensures.0 c.flags_after-f.ensures p.ensures ∙ rw (add-one, l.invariant) refl

pub returns : goal.returns
returns c =
    let l = c.loop-k in
    let a = c.args in
    let z : l.k ≡ 19 = omega (arith, l.auto.k-end, c.loop-k-test.false) in
    l.invariant ∙ ap (λ (k : ℕ). turned (moment_of a.moment) k a.m.now) z
