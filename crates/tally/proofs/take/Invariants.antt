-- `tally::take` meets its contract.
use Prim.Native.Nat.{◌-◌}
use mathlib.Core.Path.{◌≡◌}
use lib.ListN.{length}
use Rattle.tally.proofs.Loop.{Counting}
use Rattle.tally.proofs.take.Given as goal

abbrev pub invariant-loop-op : goal.invariant-loop-op
invariant-loop-op l = (l.reader.list.now ≡ l.list) × Counting l.profile l.m l.list l.copy l.t l.changed l.reader.at

abbrev pub decreases-loop-op : goal.decreases-loop-op
decreases-loop-op l = length l.list - l.reader.at
