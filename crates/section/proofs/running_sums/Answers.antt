-- `section::running_sums` meets its contract.
use Prim.Native.Nat.{ℕ}
use mathlib.Core.Path.{ap₂}
use Rattle.section.specs.Knowing.{running_sums}
use Rattle.section.proofs.running_sums.Goals as goal

pub returns-in-Some : goal.returns-in-Some
returns-in-Some c = rw c.in-Some.is at c.requires

pub returns-in-None : goal.returns-in-None
unfolding running_sums
returns-in-None c =
    let e = rw c.body.ensures at c.sums_of.ensures in
    ap₂ (λ (a b : ℕ). record { first = a; second = b }) e.0 e.1
