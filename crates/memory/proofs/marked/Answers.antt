-- `memory::marked` meets its contract.
use Prim.Native.Nat.{ℕ, ◌%◌}
use native.Mathlib.Omega.{arith}
use mathlib.Core.Path.{refl, ap}
use lib.Dec.{eqb}
use Rattle.meaning.specs.Memory.{is_present, is_subscribed, is_pending, is_in_flight}
use Rattle.memory.proofs.marked.Goals as goal
use Rattle.memory.proofs.marked.Goals.{in-Present, in-Subscribed, in-Pending, in-InFlight}

pub returns : goal.returns
unfolding is_present is_subscribed is_pending is_in_flight
returns c =
    elim c.match-flag.branch [
      | in-Present w ↦ rw (w.in-Present.is, w.bit-is) (ap (λ (x : ℕ). eqb (x % 2) 1) (omega arith))
      | in-Subscribed w ↦ rw (w.in-Subscribed.is, w.bit-is) refl
      | in-Pending w ↦ rw (w.in-Pending.is, w.bit-is) refl
      | in-InFlight w ↦ rw (w.in-InFlight.is, w.bit-is) refl
    ]
