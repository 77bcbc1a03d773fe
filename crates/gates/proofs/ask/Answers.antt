-- `gates::ask` meets its contract. What the machine reads back from the instant's bits is the instant, since it fits.
use native.Mathlib.Nat.{mod-lt}
use mathlib.Core.Path.{◌≡◌, ap, ◌∙◌}
use mathlib.Core.Bool.{false}
use lib.IntN.{pos}
use lib.Signed.{lt_z}
use mir.Facts.{to_z-of_z}
use Rattle.meaning.specs.Block.{cycle, ratio_of}
use Rattle.gates.specs.Answers.{told}
use Rattle.gates.proofs.Asked.{long_enough, ratio-right, cycle_runs, list_right, cast_right, not_started_lem, started}
use Rattle.gates.proofs.ask.Goals as goal
use Rattle.gates.proofs.ask.Goals.{After-cycle-cycle, Else-instant-lt0}

-- the test that failed, of the instant itself
left : (c : Else-instant-lt0) → lt_z c.args.instant (pos 0) ≡ false
left c = rw (to_z-of_z c.ranges.instant) at c.if-instant-lt0.false

-- the cycle of the block
cycle-is : (c : After-cycle-cycle) → c.cycle-cycle.result ≡ cycle (ratio_of c.args.block.now)
cycle-is c = c.cycle-cycle.ensures ∙ ap cycle c.ratio_of.ensures.0

pub returns-then-instant-lt0 : goal.returns-then-instant-lt0
unfolding told
returns-then-instant-lt0 c =
    not_started_lem _ c.args.instant (rw (to_z-of_z c.ranges.instant) at c.if-instant-lt0.true)

pub ratio_of-requires : goal.ratio_of-requires
ratio_of-requires c = long_enough _ c.requires

pub cycle-cycle-requires : goal.cycle-cycle-requires
cycle-cycle-requires c = (c.ratio_of.ensures.1, rw c.ratio_of.ensures.0 (ratio-right _ c.requires))

pub overflow_cast-time : goal.overflow_cast-time
overflow_cast-time c =
    rw (to_z-of_z c.ranges.instant) (cast_right c.args.instant c.ranges.instant (left (goal.at.overflow_cast-time c).Else-instant-lt0))

pub nonzero_rem-time : goal.nonzero_rem-time
nonzero_rem-time c = rw (cycle-is c) (cycle_runs _ c.requires)

pub list_of-requires : goal.list_of-requires
list_of-requires c = long_enough _ c.requires

pub entry_at-requires : goal.entry_at-requires
entry_at-requires c =
    let r = list_right _ c.requires in
    rw c.list_of.ensures (r.0, r.1, r.2, mod-lt _ (rw (cycle-is (goal.at.entry_at-requires c).After-cycle-cycle) (cycle_runs _ c.requires)))

pub returns : goal.returns
returns c =
    let places = goal.at.returns c in
    (rw (to_z-of_z c.ranges.instant, c.list_of.ensures, cycle-is places.After-cycle-cycle) at c.entry_at.ensures) ∙ started _ c.args.instant (left places.Else-instant-lt0)
