-- `notification::write_values` meets its contract.
use native.Mathlib.Omega.{arith}
use mathlib.Core.Path.{◌≡◌, sym, ap, ap₂, ◌∙◌}
use mathlib.Core.Bool.{true, ◌&&◌}
use lib.ListN.{length}
use Rattle.meaning.specs.Profile.{release18}
use Rattle.meaning.specs.Memory.{pending, present}
use Rattle.meaning.proofs.Answered.{body-length}
use Rattle.meaning.proofs.Places.{most-small, name-small}
use Rattle.table.proofs.Rows.{name_is}
use Rattle.records.proofs.Lengths.{held-length}
use Rattle.records.proofs.Pieces.{wrote_none, wrote_this}
use Rattle.notification.proofs.Reported.{part-start, part-within, kind_next, value_due, no_value_due}
use Rattle.notification.proofs.write_values.Goals as goal
use Rattle.notification.proofs.write_values.Goals.{After-has-in-loop-k, then-has, else-has}

asked : (c : After-has-in-loop-k) → (pending c.args.m.now c.loop-k.k && present c.args.m.now c.loop-k.k) ≡ (c.has.result && c.has-in-loop-k.result)
asked c = sym (ap₂ ◌&&◌ c.has.ensures c.has-in-loop-k.ensures)

pub loop-k-init : goal.loop-k-init
loop-k-init c = wrote_none c.args.out.now c.args.at (part-start release18 c.args.m.now true)

pub write_held-to-requires : goal.write_held-to-requires
write_held-to-requires c =
    let m = c.args.m.now in
    let l = c.loop-k in
    let h = c.loop-k-test.true in
    let name = name_is _ _ c.row_at.ensures.0 in
    let e = value_due release18 m l.k (asked (goal.at.write_held-to-requires c).After-has-in-loop-k ∙ c.if-has.true) name c.body.ensures in (
      omega (
        arith,
        l.invariant.0,
        l.auto.out,
        part-within release18 true m l.k h,
        c.requires,
        ap length e,
        held-length (record { name = c.row_at.result.name; value = c.body.result.now }),
      ),
      omega (arith, name, name-small l.k h),
      omega (arith, ap length c.body.ensures, body-length m l.k, most-small l.k h),
    )

pub loop-k-preserved : goal.loop-k-preserved
loop-k-preserved c =
    let a = c.args in
    let m = a.m.now in
    let l = c.loop-k in
    let t = asked (goal.at.loop-k-preserved c).After-has-in-loop-k in
    elim c.if-has.branch [
      | then-has w ↦
          let e = value_due release18 m l.k (t ∙ w.if-has.true) (name_is _ _ w.row_at.ensures.0) w.body.ensures in
          rw (w.out-is, w.to-is) (kind_next release18 true m l.k a.out.now a.at c.loop-k-test.true c.requires l.invariant (wrote_this l.out l.to e w.write_held-to.ensures))
      | else-has w ↦ rw (w.out-is, w.to-is) (kind_next release18 true m l.k a.out.now a.at c.loop-k-test.true c.requires l.invariant (wrote_none l.out l.to (no_value_due release18 m l.k (t ∙ w.if-has.false))))
    ]
