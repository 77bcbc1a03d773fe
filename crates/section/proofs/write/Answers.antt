-- `section::write` meets its contract.
use Prim.Native.Nat.{◌≤◌, ◌<◌}
use native.Mathlib.Omega.{arith}
use mathlib.Core.Path.{◌≡◌, refl, ap, ◌∙◌}
use mathlib.Core.Bool.{false}
use lib.ListN.{length}
use borrow.Author.Rules.{rules}
use Rattle.std.specs.Prelude.{None}
use Rattle.meaning.specs.Profile.{release18, is_release16}
use Rattle.operation.specs.Handing.{Inside, Handed, handed, handed_at}
use Rattle.operation.proofs.Turns.{HandsOut, hands_whole}
use Rattle.operation.proofs.Reading.{has_op, hands_there, read_operation, read_none}
use Rattle.command.proofs.Told.{told_back}
use Rattle.command.proofs.Walk.{under_ahead}
use Rattle.section.specs.Knowing.{Knows}
use Rattle.section.proofs.Knows.{kept_knows, learnt_knows}
use Rattle.section.proofs.Pass.{passing_start, passing_end, turn-fits, passing_turn}
use Rattle.section.proofs.write.Goals as goal
use Rattle.section.proofs.write.Goals.{After-next_operation, After-kept, After-learnt-known, In-Ok-Some}

-- what the reader has at its place
abbrev there : After-next_operation → Handed
there c =
    let r = c.loop-op.reader in
    handed_at 2 r.list.now r.at

hands : (c : After-next_operation) → HandsOut c.args.profile c.args.list.now c.loop-op.reader.at (there c)
unfolding is_release16
hands c =
    let i = c.loop-op.invariant in
    hands_whole _ release18 _ _ _ refl i.1.under.whole (hands_there _ _ _ (λ i. omega (arith, c.type_inv.list i)) _ i.0)

-- an operation, and the place after it
module _ (c : In-Ok-Some) where
  operation : there (goal.at.In-Ok-Some c).After-next_operation ≡ handed c.in-Ok-Some.op c.next_operation.new.self.at
  operation =
      let e = c.in-Ok-Some.ensures in
      read_operation _ _ _ _ (rw c.in-Ok-Some.field-0-is at e.handed) e.place

  ahead : (c.loop-op.reader.at < c.next_operation.new.self.at) × (c.next_operation.new.self.at ≤ length c.args.list.now) × Inside (length c.args.list.now) c.in-Ok-Some.op
  ahead = under_ahead _ _ _ _ _ c.loop-op.invariant.1.under _ (hands (goal.at.In-Ok-Some c).After-next_operation) _ _ operation

-- what is known once the operation is carried out, and once its answer is
still-known : (c : After-kept) → Knows c.carry_out-a.new.m c.kept.result
still-known c =
    let l = c.loop-op in
    let k = c.carry_out-a in
    rw (k.ensures.m_after, c.kept.ensures) (kept_knows _ _ _ _ l.known l.invariant.1.under.is_sound l.invariant.1.knows)

now-known : (c : After-learnt-known) → Knows c.carry_out-a.new.m c.learnt-known.result
now-known c =
    let l = c.loop-op in
    let k = c.carry_out-a in
    let h : Knows k.new.m c.kept.result = rw (k.ensures.m_after, c.kept.ensures) (kept_knows _ _ _ _ l.known l.invariant.1.under.is_sound l.invariant.1.knows) in
    rw c.learnt-known.ensures (learnt_knows _ k.result c.kept.result h)

pub loop-op-init : goal.loop-op-init
loop-op-init c =
    let r = c.new-reader.ensures in
    (ap (λ r. r.now) r.0, rw r.1 (passing_start _ _ _ _ _ _ c.requires.0 c.requires.1 refl c.requires.3))

pub carry_out-a-requires : goal.carry_out-a-requires
carry_out-a-requires c = (c.loop-op.invariant.1.under.is_sound, (ahead (goal.at.carry_out-a-requires c).In-Ok-Some).2)

pub learnt-known-requires : goal.learnt-known-requires
learnt-known-requires c = still-known c

pub put-requires : goal.put-requires
put-requires c =
    let places = goal.at.put-requires c in
    let k = c.carry_out-a in
    let l = c.loop-op in (
      c.requires.2,
      (ahead places.In-Ok-Some).2,
      (told_back _ _ _ _ _ k.result k.ensures.m_after k.ensures.value).1,
      now-known places.After-learnt-known,
      turn-fits _ _ _ _ _ _ _ l.places l.known l.reader.at l.invariant.1 _ (hands places.After-next_operation) _ _ (operation places.In-Ok-Some) _ k.result k.ensures.m_after k.ensures.value,
    )

pub loop-op-smaller : goal.loop-op-smaller
loop-op-smaller c =
    let w = ahead (goal.at.loop-op-smaller c).In-Ok-Some in
    omega (arith, w.0, w.1)

pub loop-op-preserved : goal.loop-op-preserved
loop-op-preserved c =
    let places = goal.at.loop-op-preserved c in
    let k = c.carry_out-a in
    let l = c.loop-op in (
      ap (λ r. r.now) c.next_operation.ensures.list ∙ l.invariant.0,
      passing_turn _ _ _ _ _ _ _ l.places l.known l.reader.at l.invariant.1 _ (hands places.After-next_operation) _ _ (operation places.In-Ok-Some) _ k.result k.ensures.m_after k.ensures.value
          _ _ _ (now-known places.After-learnt-known) c.put.ensures,
    )

pub returns-in_default : goal.returns-in_default
returns-in_default c =
    let l = c.loop-op in
    let n : c.in_default.field-0 ≡ None = search rules in
    let none : has_op c.next_operation.result ≡ false = rw (c.in_default.is, n) refl in
    let e = passing_end _ _ _ _ _ _ _ l.places l.known l.reader.at l.invariant.1 _ (hands (goal.at.returns-in_default c).After-next_operation) (read_none _ _ c.next_operation.ensures.handed none) in
    record { copy_after = e.0; out_after = e.1 }

pub returns-in_default-2 : goal.returns-in_default-2
returns-in_default-2 c =
    let l = c.loop-op in
    let none : has_op c.next_operation.result ≡ false = rw c.in_default.is refl in
    let e = passing_end _ _ _ _ _ _ _ l.places l.known l.reader.at l.invariant.1 _ (hands (goal.at.returns-in_default-2 c).After-next_operation) (read_none _ _ c.next_operation.ensures.handed none) in
    record { copy_after = e.0; out_after = e.1 }
