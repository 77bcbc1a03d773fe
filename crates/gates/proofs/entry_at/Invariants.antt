-- `gates::entry_at` meets its contract: what the entries from here on answer is what all of them answer.
use Prim.Native.Nat.{◌-◌, ◌*◌, ◌≤◌}
use mathlib.Core.Path.{◌≡◌}
use lib.ListN.{drop}
use Rattle.meaning.specs.Gates.{entry_at}
use Rattle.gates.proofs.entry_at.Given as goal

abbrev pub invariant-loop-k : goal.invariant-loop-k
invariant-loop-k l =
    (l.end ≤ l.k * 4294967296)
    × (entry_at (l.last - l.k) (drop (7 * l.k) l.list) l.k l.end l.time l.cycle ≡ entry_at l.last l.list 0 0 l.time l.cycle)
