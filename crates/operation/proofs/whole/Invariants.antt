-- `operation::whole` meets its contract. The octets from the place on are whole where the list is, and break where it does.
use Prim.Native.Nat.{◌≤◌, ◌-◌}
use mathlib.Core.Path.{◌≡◌}
use lib.ListN.{length, drop}
use Rattle.meaning.specs.Operation.{parse, is_some, broken}
use Rattle.operation.proofs.whole.Given as goal

abbrev pub invariant-loop : goal.invariant-loop
invariant-loop l =
    (l.reader.list.now ≡ l.list) × (l.reader.at ≤ length l.list) × (is_some (parse l.profile (drop l.reader.at l.list)) ≡ is_some (parse l.profile l.list)) × (broken l.profile (drop l.reader.at l.list) ≡ broken l.profile l.list)

abbrev pub decreases-loop : goal.decreases-loop
decreases-loop l = length l.list - l.reader.at
