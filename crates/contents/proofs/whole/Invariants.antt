-- `contents::whole` meets its contract. The octets from the next place on are whole where all are.
use Prim.Native.Nat.{◌-◌, ◌≤◌}
use mathlib.Core.Path.{◌≡◌}
use Rattle.contents.specs.Spans.{is_whole}
use Rattle.contents.proofs.Between.{between}
use Rattle.contents.proofs.whole.Given as goal

abbrev pub invariant-loop-next : goal.invariant-loop-next
invariant-loop-next l = (l.at ≤ l.next) × (l.next ≤ l.to) × (is_whole (between l.s l.next l.to) ≡ is_whole (between l.s l.at l.to))

abbrev pub decreases-loop-next : goal.decreases-loop-next
decreases-loop-next l = l.to - l.next
