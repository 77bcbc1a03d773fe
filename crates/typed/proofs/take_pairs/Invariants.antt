-- `typed::take_pairs` meets its contract.
use Prim.Native.Nat.{◌-◌}
use lib.ListN.{length}
use Rattle.typed.specs.Scanning.{whole_octets, Goes}
use Rattle.typed.proofs.take_pairs.Given as goal

abbrev pub invariant-loop-at : goal.invariant-loop-at
invariant-loop-at l = Goes l.initial.room (whole_octets l.count) l.held l.from l.room (whole_octets l.kept) l.at

abbrev pub decreases-loop-at : goal.decreases-loop-at
decreases-loop-at l = length l.held - l.at
