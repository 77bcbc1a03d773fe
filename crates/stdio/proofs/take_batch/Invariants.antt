-- `stdio::take_batch` meets its contract.
use Prim.Native.Nat.{◌+◌, ◌-◌, ◌≤◌, ◌<◌}
use mathlib.Core.Path.{◌≡◌}
use lib.ListN.{length}
use Rattle.stdio.proofs.Taking.{Joins}
use Rattle.stdio.proofs.take_batch.Given as goal

abbrev pub invariant-loop-page : goal.invariant-loop-page
invariant-loop-page g l =
    let P = g.P.TakePieces in
    P.fits l.port × (length l.page.room.now ≡ length l.initial.page.room.now) × (l.next ≤ length l.held) × (l.page.at ≤ 65535 + P.longest) × (1 ≤ l.page.at → l.from < l.next) × (l.from ≤ l.next)
    × Joins P.program l.held (record { state = P.state l.initial.port; from = l.from }) (record { state = P.state l.port; from = l.next }) l.page

abbrev pub decreases-loop-page : goal.decreases-loop-page
decreases-loop-page g l = length l.held - l.next
