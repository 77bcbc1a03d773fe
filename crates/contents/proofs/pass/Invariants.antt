-- `contents::pass` meets its contract. The values left from the next place on end where all end.
use Prim.Native.Nat.{◌-◌, ◌≤◌}
use mathlib.Core.Path.{◌≡◌}
use Rattle.contents.proofs.Records.{end_of}
use Rattle.contents.proofs.pass.Given as goal

abbrev pub invariant-loop : goal.invariant-loop
invariant-loop l = (l.at ≤ l.next) × (l.next ≤ l.to) × (end_of l.s l.next l.to l.w (l.n - l.counter) ≡ end_of l.s l.at l.to l.w l.n)
