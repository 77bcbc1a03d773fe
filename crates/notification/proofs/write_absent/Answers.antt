-- `notification::write_absent` meets its contract.
use native.Mathlib.Omega.{arith}
use mathlib.Core.Path.{◌≡◌, sym, ap, ap₂, ◌∙◌}
use mathlib.Core.Bool.{false, not, ◌&&◌}
use lib.ListN.{length}
use Rattle.meaning.specs.Memory.{pending, present}
use Rattle.meaning.proofs.Places.{name-small}
use Rattle.table.proofs.Rows.{name_is}
use Rattle.records.proofs.Lengths.{failed-length}
use Rattle.records.proofs.Pieces.{wrote_none, wrote_this}
use Rattle.notification.proofs.Reported.{part-start, part-within, kind_next, failed_due, none_failed_due}
use Rattle.notification.proofs.write_absent.Goals as goal
use Rattle.notification.proofs.write_absent.Goals.{After-has-in-loop-k, then-has, else-has}

asked : (c : After-has-in-loop-k) → (pending c.args.m.now c.loop-k.k && not (present c.args.m.now c.loop-k.k)) ≡ (c.has.result && not c.has-in-loop-k.result)
asked c = sym (ap₂ ◌&&◌ c.has.ensures (ap not c.has-in-loop-k.ensures))

pub loop-k-init : goal.loop-k-init
loop-k-init c = wrote_none c.args.out.now c.args.at (part-start c.args.profile c.args.m.now false)

pub write_failed-to-requires : goal.write_failed-to-requires
write_failed-to-requires c =
    let m = c.args.m.now in
    let p = c.args.profile in
    let l = c.loop-k in
    let h = c.loop-k-test.true in
    let name = name_is _ _ c.row_at.ensures.0 in
    let e = failed_due p m l.k (asked (goal.at.write_failed-to-requires c).After-has-in-loop-k ∙ c.if-has.true) name (c.from.ensures ∙ c.absent_cause.ensures) in (
      omega (
        arith,
        l.invariant.0,
        l.auto.out,
        part-within p false m l.k h,
        c.requires,
        ap length e,
        failed-length (record { name = c.row_at.result.name; cause = c.from.result }),
      ),
      omega (arith, name, name-small l.k h),
    )

pub loop-k-preserved : goal.loop-k-preserved
loop-k-preserved c =
    let a = c.args in
    let m = a.m.now in
    let l = c.loop-k in
    let t = asked (goal.at.loop-k-preserved c).After-has-in-loop-k in
    elim c.if-has.branch [
      | then-has w ↦
          let e = failed_due a.profile m l.k (t ∙ w.if-has.true) (name_is _ _ w.row_at.ensures.0) (w.from.ensures ∙ w.absent_cause.ensures) in
          rw (w.out-is, w.to-is) (kind_next a.profile false m l.k a.out.now a.at c.loop-k-test.true c.requires l.invariant (wrote_this l.out l.to e w.write_failed-to.ensures))
      | else-has w ↦ rw (w.out-is, w.to-is) (kind_next a.profile false m l.k a.out.now a.at c.loop-k-test.true c.requires l.invariant (wrote_none l.out l.to (none_failed_due a.profile m l.k (t ∙ w.if-has.false))))
    ]
