-- `memory::none_in_flight` meets its contract.
use Prim.Native.Nat.{ℕ}
use native.Mathlib.Omega.{arith}
use mathlib.Core.Path.{◌≡◌, refl, ap, ap₂, ◌∙◌}
use mathlib.Core.Bool.{◌&&◌, not}
use Rattle.meaning.specs.Octets.{below}
use Rattle.meaning.specs.Memory.{in_flight}
use Rattle.meaning.specs.Moves.{none_in_flight}
use Rattle.meaning.proofs.Tests.{below_more}
use Rattle.memory.proofs.none_in_flight.Goals as goal

pub loop-k-init : goal.loop-k-init
unfolding below
loop-k-init c = refl

pub loop-k-preserved : goal.loop-k-preserved
loop-k-preserved c =
    let l = c.loop-k in
    ap₂ ◌&&◌ l.invariant (ap not c.has.ensures) ∙ below_more (λ j. not (in_flight c.args.m.now j)) l.k

pub returns : goal.returns
unfolding none_in_flight
returns c =
    let l = c.loop-k in
    let z : l.k ≡ 19 = omega (arith, l.auto.k-end, c.loop-k-test.false) in
    l.invariant ∙ ap (λ (k : ℕ). below k (λ j. not (in_flight c.args.m.now j))) z
