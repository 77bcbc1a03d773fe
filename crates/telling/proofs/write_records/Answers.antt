-- `telling::write_records` meets its contract. What is left to be told, behind what has been, makes up all.
use mathlib.Core.Path.{ap, ◌∙◌}
use Rattle.std.specs.Prelude.{Ok}
use Rattle.telling.proofs.Records.{telling_start, none_remain, none_refused, telling_end, one_inside, one_room, one_less, telling_on}
use Rattle.telling.proofs.write_records.Goals as goal

pub loop-handed-init : goal.loop-handed-init
loop-handed-init c = telling_start _ _ _ c.requires.0 c.requires.1

pub write_record-requires : goal.write_record-requires
write_record-requires c =
    let t = c.loop-handed.invariant in
    let e = c.in-Ok.is ∙ ap Ok c.in-Some.is in
    (one_inside _ _ _ _ _ t _ _ e, one_room _ _ _ _ _ t _ _ e)

pub loop-handed-smaller : goal.loop-handed-smaller
loop-handed-smaller c =
    one_less _ _ _ _ _ c.loop-handed.invariant _ _ (c.in-Ok.is ∙ ap Ok c.in-Some.is) _ c.next-handed.ensures

pub loop-handed-preserved : goal.loop-handed-preserved
loop-handed-preserved c =
    telling_on _ _ _ _ _ c.loop-handed.invariant _ _ (c.in-Ok.is ∙ ap Ok c.in-Some.is) _ _ c.next-handed.ensures c.write_record.ensures

pub returns-in_default-next : goal.returns-in_default-next
returns-in_default-next c =
    telling_end _ _ _ _ _ c.loop-handed.invariant (none_remain _ _ (c.in-Ok.is ∙ ap Ok c.in_default-next.is))

pub returns : goal.returns
returns c = telling_end _ _ _ _ _ c.loop-handed.invariant (none_refused _ _ _ c.in_default.is)
