-- `values::intervals` meets its contract: the intervals passed and those left give what the whole list gives.
use Prim.Native.Nat.{◌+◌, ◌*◌, ◌≤◌}
use mathlib.Core.Path.{◌≡◌}
use lib.ListN.{drop}
use Rattle.meaning.specs.Block.{intervals}
use Rattle.values.proofs.intervals.Given as goal

abbrev pub invariant-loop-e : goal.invariant-loop-e
invariant-loop-e l =
    (l.sum + intervals (drop l.e-index l.entries) ≡ intervals l.entries)
    × (l.sum ≤ l.e-index * 4294967296)
