-- `notification::count` meets its contract.
use Prim.Native.Nat.{ℕ}
use mathlib.Core.Path.{◌≡◌}
use Rattle.meaning.specs.Calls.{reports}
use Rattle.notification.specs.Reports.{due_of}
use Rattle.notification.proofs.count.Given as goal

abbrev pub invariant-loop-k : goal.invariant-loop-k
invariant-loop-k l = (p : ℕ) → l.d ≡ due_of (reports p l.m l.k)
