-- `text::write_field` meets its contract.
use native.Mathlib.Omega.{arith}
use Rattle.page.proofs.Prints.{room_behind, prints_both}
use Rattle.text.specs.Lines.{wide_field}
use Rattle.text.proofs.Decimals.{wide-field-length}
use Rattle.text.proofs.write_field.Goals as goal

pub write_wide_decimal-requires : goal.write_wide_decimal-requires
write_wide_decimal-requires c = omega (arith, wide-field-length c.args.number c.args.after, c.requires)

pub push-requires : goal.push-requires
push-requires c = room_behind _ 1 c.requires c.write_wide_decimal.ensures (omega (arith, wide-field-length c.args.number c.args.after))

pub returns : goal.returns
unfolding wide_field
returns c = prints_both (omega (arith, wide-field-length c.args.number c.args.after, c.requires)) c.write_wide_decimal.ensures c.push.ensures
