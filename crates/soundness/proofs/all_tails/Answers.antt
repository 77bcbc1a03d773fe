-- `soundness::all_tails` meets its contract.
use Prim.Native.Nat.{◌+◌, ◌-◌}
use native.Mathlib.Omega.{arith}
use mathlib.Core.Bool.{Bool, false, ◌&&◌}
use mathlib.Core.Path.{◌≡◌, refl, sym, ap, ◌∙◌}
use Rattle.meaning.specs.Table.{rooms, rows, room_at}
use Rattle.meaning.specs.Octets.{part, blank, below}
use Rattle.meaning.proofs.Tests.{below_more}
use Rattle.meaning.proofs.Places.{room_end, rooms-fill}
use Rattle.soundness.specs.Fields.{tail_at, all_tails}
use Rattle.soundness.proofs.Gaps.{room_next, Goes-on, gap_joins}
use Rattle.soundness.proofs.Entries.{fields_fit, below_denied}
use Rattle.soundness.proofs.all_tails.Goals as goal
use Rattle.soundness.proofs.all_tails.Goals.{After-gap_at}

-- what `gap_at` says of the tails so far
joined : (c : After-gap_at) → Goes-on c.args.m.now c.loop-k.k c.loop-k.end c.loop-k-test.true c.loop-k.invariant.0 c.gap_at.result
joined c =
    let m = c.args.m.now in
    let l = c.loop-k in
    let h = c.loop-k-test.true in
    rw c.gap_at.ensures (gap_joins m l.k l.end h l.invariant.0 (fields_fit m c.requires l.k h))

pub loop-k-init : goal.loop-k-init
unfolding below room_at rooms rows part blank
loop-k-init c = (omega arith, omega arith, refl)

pub gap_at-requires : goal.gap_at-requires
gap_at-requires c =
    let l = c.loop-k in
    let h = c.loop-k-test.true in
    (h, l.invariant.0, fields_fit c.args.m.now c.requires l.k h)

pub returns-in_default : goal.returns-in_default
unfolding all_tails Goes-on
returns-in_default c =
    let m = c.args.m.now in
    let l = c.loop-k in
    let j = rw c.in_default.is at (joined (goal.at.returns-in_default c).After-gap_at) in
    let d : below (l.k + 1) (tail_at m) ≡ false =
    sym (below_more (tail_at m) l.k) ∙ ap (λ (t : Bool). t && tail_at m l.k) (sym l.invariant.2) ∙ j in
    let z : l.k + 1 + (18 - l.k) ≡ 19 = omega (arith, c.loop-k-test.true) in
    sym (rw z at (below_denied (tail_at m) (l.k + 1) d (18 - l.k)))

pub loop-k-preserved : goal.loop-k-preserved
unfolding Goes-on
loop-k-preserved c =
    let m = c.args.m.now in
    let l = c.loop-k in
    let h = c.loop-k-test.true in
    let j = rw c.in-Some.is at (joined (goal.at.loop-k-preserved c).After-gap_at) in (
      j.1,
      omega (arith, j.1, room_next l.k h, room_end l.k h),
      j.0 ∙ ap (λ (t : Bool). t && tail_at m l.k) l.invariant.2 ∙ below_more (tail_at m) l.k,
    )

pub returns : goal.returns
unfolding all_tails part
returns c =
    let l = c.loop-k in
    let m = c.args.m.now in
    let z : l.k ≡ 19 = omega (arith, l.auto.k-end, c.loop-k-test.false) in
    let e = rw (z, rooms-fill) at l.invariant.2 in
    rw c.is_blank.ensures e
