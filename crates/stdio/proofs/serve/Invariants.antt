-- `stdio::serve` meets its contract.
use Prim.Native.Nat.{◌-◌, ◌≤◌}
use mathlib.Core.Path.{◌≡◌}
use lib.ListN.{length}
use Rattle.stdio.specs.Taking.{taken}
use Rattle.stdio.proofs.serve.Given as goal

abbrev pub invariant-loop-next : goal.invariant-loop-next
invariant-loop-next g l =
    let P = g.P.TakePieces in
    P.fits l.port × (length l.out ≡ length l.initial.out) × (l.from ≤ length l.held)
    × (taken P.program l.held (record { state = P.state l.port; from = l.from }) ≡ taken P.program l.held (record { state = P.state l.initial.port; from = 0 }))

abbrev pub decreases-loop-next : goal.decreases-loop-next
decreases-loop-next g l = length l.held - l.from
