-- `stdio::run` meets its contract.
use Prim.Native.Nat.{◌+◌, ◌≤◌, ◌<◌}
use mathlib.Core.Path.{◌≡◌}
use lib.ListN.{length}
use Rattle.stdio.proofs.run.Given as goal

abbrev pub invariant-loop : goal.invariant-loop
invariant-loop g l =
    g.P.TakePieces.fits l.port × (length l.block ≡ length l.initial.block) × (length l.out ≡ length l.initial.out) × (l.from ≤ l.to) × (l.to ≤ length l.block) × (l.to < l.from + 65538)
