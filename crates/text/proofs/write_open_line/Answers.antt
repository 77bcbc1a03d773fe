-- `text::write_open_line` meets its contract.
use native.Mathlib.Omega.{arith}
use Rattle.page.proofs.Prints.{room_behind, prints_both}
use Rattle.text.specs.Lines.{open_line}
use Rattle.text.proofs.Decimals.{number-long, field_wide, octet-field-length, wide-field-short}
use Rattle.text.proofs.write_open_line.Goals as goal

pub write_field-requires : goal.write_field-requires
write_field-requires c = omega (arith, c.requires, number-long 0 32 (omega arith))

pub write_octet_field-requires : goal.write_octet_field-requires
write_octet_field-requires c = room_behind 50 3 c.requires c.write_field.ensures (omega (arith, number-long 0 32 (omega arith)))

pub write_field-requires-2 : goal.write_field-requires-2
write_field-requires-2 c =
    let t = room_behind 50 45 c.requires c.write_field.ensures (omega (arith, number-long 0 32 (omega arith))) in
    room_behind 45 _ t c.write_octet_field.ensures (omega (arith, octet-field-length c.args.states, wide-field-short c.args.entry 32))

pub write_field-requires-3 : goal.write_field-requires-3
write_field-requires-3 c =
    let t = room_behind 50 45 c.requires c.write_field.ensures (omega (arith, number-long 0 32 (omega arith))) in
    let u = room_behind 45 42 t c.write_octet_field.ensures (omega (arith, octet-field-length c.args.states)) in
    room_behind 42 _ u c.write_field-2.ensures (omega (arith, wide-field-short c.args.entry 32, wide-field-short c.args.nanoseconds 10))

pub returns : goal.returns
unfolding open_line
returns c =
    let n = number-long 0 32 (omega arith) in
    let t = room_behind 50 45 c.requires c.write_field.ensures (omega (arith, n)) in
    let u = room_behind 45 42 t c.write_octet_field.ensures (omega (arith, octet-field-length c.args.states)) in
    rw (← field_wide 0 (omega arith))
    (prints_both (omega (arith, c.requires, n)) c.write_field.ensures
    (prints_both (omega (arith, t, octet-field-length c.args.states)) c.write_octet_field.ensures
    (prints_both (omega (arith, u, wide-field-short c.args.entry 32)) c.write_field-2.ensures c.write_field-3.ensures)))
