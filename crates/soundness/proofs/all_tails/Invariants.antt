-- `soundness::all_tails` meets its contract.
use Prim.Native.Nat.{◌-◌, ◌≤◌}
use mathlib.Core.Path.{◌≡◌}
use Rattle.meaning.specs.Table.{room_at}
use Rattle.meaning.specs.Octets.{part, blank, below}
use Rattle.soundness.specs.Fields.{tail_at}
use Rattle.soundness.proofs.all_tails.Given as goal

abbrev pub invariant-loop-k : goal.invariant-loop-k
invariant-loop-k l =
    (l.end ≤ room_at l.k) × (l.end ≤ 2100) × (blank (part l.m l.end (room_at l.k - l.end)) ≡ below l.k (tail_at l.m))
