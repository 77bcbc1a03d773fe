-- `desk::answer` meets its contract.
use native.Mathlib.Omega.{arith}
use mathlib.Core.Path.{refl, sym}
use lib.ListN.{take}
use lib.Seq.{length-take-le}
use Rattle.octets.specs.Letters.{letters}
use Rattle.page.proofs.Prints.{prints_none}
use Rattle.words.specs.Lines.{not_a_message, fixed_line}
use Rattle.typed.specs.declared.Form.TheVariants.{Blank, Refused}
use Rattle.desk.specs.Lines.{answer_by}
use Rattle.desk.proofs.Lines.{form-answer, message_form, other_form, refused-small}
use Rattle.desk.proofs.answer.Goals as goal

pub write_line-requires : goal.write_line-requires
write_line-requires c =
    (refused-small _ _ c.in-Refused.is c.requires.0.small, omega (arith, c.requires.1))

pub returns-in-Blank : goal.returns-in-Blank
unfolding answer_by
returns-in-Blank c = rw (form-answer c.args.octets.now c.args.ended Blank c.in-Blank.is) (prints_none c.args.page.now)

pub returns-in-Refused : goal.returns-in-Refused
unfolding answer_by
returns-in-Refused c = rw (form-answer c.args.octets.now c.args.ended (Refused _) c.in-Refused.is) c.write_line.ensures

pub slice_bounds-tell-end : goal.slice_bounds-tell-end
slice_bounds-tell-end c =
    let k = c.requires.0 in
    sym (length-take-le _ _ (omega (arith, k.long, k.within)))

pub returns-in-Number : goal.returns-in-Number
returns-in-Number c =
    rw (form-answer c.args.octets.now c.args.ended c.args.ended.form refl, message_form _ (take c.args.ended.count c.args.octets.now) c.in-Number.is) c.tell.ensures

pub write_fixed-requires : goal.write_fixed-requires
unfolding fixed_line not_a_message letters
write_fixed-requires c = omega (arith, c.requires.1)

pub returns-in_default : goal.returns-in_default
unfolding fixed_line
returns-in_default c =
    let d = c.in_default in
    let e = other_form c.args.ended.form (take c.args.ended.count c.args.octets.now) d.not-Blank d.not-Refused d.not-Number d.not-Numbered d.not-Octets in
    rw (form-answer c.args.octets.now c.args.ended c.args.ended.form refl, e) c.write_fixed.ensures
