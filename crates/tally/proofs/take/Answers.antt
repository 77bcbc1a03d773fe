-- `tally::take` meets its contract.
use Prim.Native.Nat.{◌*◌, ◌≤◌, ◌<◌}
use native.Mathlib.Omega.{arith}
use mathlib.Core.Path.{◌≡◌, refl, ap, ◌∙◌}
use mathlib.Core.Bool.{false}
use borrow.Author.Rules.{rules}
use Rattle.std.specs.Prelude.{None}
use lib.ListN.{length}
use Rattle.meaning.specs.Profile.{release18, is_release16}
use Rattle.operation.specs.Handing.{Inside, Handed, handed, handed_at}
use Rattle.operation.proofs.Turns.{HandsOut, inside-within, hands_whole}
use Rattle.operation.proofs.Reading.{has_op, hands_there, read_operation, read_none}
use Rattle.command.proofs.Told.{told_back}
use Rattle.command.proofs.Walk.{under_ahead}
use Rattle.tally.proofs.Plus.{below_more}
use Rattle.tally.proofs.Loop.{zero_tally, counting_start, counting_end, counting_turn}
use Rattle.tally.proofs.take.Goals as goal
use Rattle.tally.proofs.take.Goals.{After-next_operation, In-Ok-Some}

-- what the reader has at its place
abbrev there : After-next_operation → Handed
there c =
    let r = c.loop-op.reader in
    handed_at 2 r.list.now r.at

hands : (c : After-next_operation) → HandsOut c.args.profile c.args.list.now c.loop-op.reader.at (there c)
unfolding is_release16
hands c =
    let i = c.loop-op.invariant in
    hands_whole _ release18 _ _ _ refl i.1.under.whole (hands_there _ _ _ (λ i. omega (arith, c.type_inv.list i)) _ i.0)

-- an operation, and the place after it
module _ (c : In-Ok-Some) where
  operation : there (goal.at.In-Ok-Some c).After-next_operation ≡ handed c.in-Ok-Some.op c.next_operation.new.self.at
  operation =
      let e = c.in-Ok-Some.ensures in
      read_operation _ _ _ _ (rw c.in-Ok-Some.field-0-is at e.handed) e.place

  ahead : (c.loop-op.reader.at < c.next_operation.new.self.at) × (c.next_operation.new.self.at ≤ length c.args.list.now) × Inside (length c.args.list.now) c.in-Ok-Some.op
  ahead = under_ahead _ _ _ _ _ c.loop-op.invariant.1.under _ (hands (goal.at.In-Ok-Some c).After-next_operation) _ _ operation

pub loop-op-init : goal.loop-op-init
loop-op-init c =
    let r = c.new-reader.ensures in
    (ap (λ r. r.now) r.0, rw (zero_tally c.default-t.result c.default-t.ensures, r.1) (counting_start _ _ _ _ c.requires.0 c.requires.1 c.renew.ensures))

pub carry_out-a-requires : goal.carry_out-a-requires
carry_out-a-requires c = (c.loop-op.invariant.1.under.is_sound, (ahead (goal.at.carry_out-a-requires c).In-Ok-Some).2)

pub add-requires : goal.add-requires
add-requires c =
    let l = c.loop-op in
    let i = l.invariant.1 in (
      below_more (4096 * l.reader.at) 16777216 l.t (omega (arith, i.under.inside, c.requires.2)) i.small,
      inside-within _ 2048 _ c.requires.2 (ahead (goal.at.add-requires c).In-Ok-Some).2,
      (told_back _ _ _ _ _ c.carry_out-a.result c.carry_out-a.ensures.m_after c.carry_out-a.ensures.value).1,
    )

pub loop-op-smaller : goal.loop-op-smaller
loop-op-smaller c =
    let w = ahead (goal.at.loop-op-smaller c).In-Ok-Some in
    omega (arith, w.0, w.1)

pub loop-op-preserved : goal.loop-op-preserved
loop-op-preserved c =
    let places = goal.at.loop-op-preserved c in
    let k = c.carry_out-a in
    let l = c.loop-op in
    let i = l.invariant in (
      ap (λ r. r.now) c.next_operation.ensures.list ∙ i.0,
      counting_turn _ _ _ _ l.t l.changed l.reader.at i.1 _ (hands places.After-next_operation) _ _ (operation places.In-Ok-Some) c.requires.2 _ k.result _ _
          k.ensures.m_after k.ensures.value c.add.ensures c.changes-changed.ensures,
    )

pub returns-in_default : goal.returns-in_default
returns-in_default c =
    let l = c.loop-op in
    let n : c.in_default.field-0 ≡ None = search rules in
    let none : has_op c.next_operation.result ≡ false = rw (c.in_default.is, n) refl in
    let e = counting_end _ _ _ _ _ _ l.reader.at l.invariant.1 _ (hands (goal.at.returns-in_default c).After-next_operation) c.requires.2 (read_none _ _ c.next_operation.ensures.handed none) in
    record { tally_value = e.0; below = e.1; copy_after = e.2; changed_value = e.3 }

pub returns-in_default-2 : goal.returns-in_default-2
returns-in_default-2 c =
    let l = c.loop-op in
    let none : has_op c.next_operation.result ≡ false = rw c.in_default.is refl in
    let e = counting_end _ _ _ _ _ _ l.reader.at l.invariant.1 _ (hands (goal.at.returns-in_default-2 c).After-next_operation) c.requires.2 (read_none _ _ c.next_operation.ensures.handed none) in
    record { tally_value = e.0; below = e.1; copy_after = e.2; changed_value = e.3 }
