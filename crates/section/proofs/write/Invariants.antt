-- `section::write` meets its contract.
use Prim.Native.Nat.{◌-◌}
use mathlib.Core.Path.{◌≡◌}
use lib.ListN.{length}
use Rattle.section.proofs.Pass.{Passing}
use Rattle.section.proofs.write.Given as goal

abbrev pub invariant-loop-op : goal.invariant-loop-op
invariant-loop-op l = (l.reader.list.now ≡ l.list) × Passing l.profile l.initial.places l.initial.copy l.list l.initial.out l.copy l.out l.places l.known l.reader.at

abbrev pub decreases-loop-op : goal.decreases-loop-op
decreases-loop-op l = length l.list - l.reader.at
