-- `text::write_full_line` meets its contract.
use Prim.Native.Nat.{◌+◌}
use native.Mathlib.Omega.{arith}
use lib.ListN.{length}
use Rattle.page.proofs.Prints.{room_behind, prints_both}
use Rattle.text.specs.Lines.{full_line}
use Rattle.text.proofs.Decimals.{number-long, field_wide}
use Rattle.text.proofs.write_full_line.Goals as goal

pub write_field-requires : goal.write_field-requires
write_field-requires c = omega (arith, c.requires.2, number-long c.args.number 32 c.requires.0)

pub write_field-requires-2 : goal.write_field-requires-2
write_field-requires-2 c =
    room_behind _ _ c.requires.2 c.write_field.ensures (omega (arith, number-long c.args.number 32 c.requires.0, number-long c.args.position 32 c.requires.1))

pub write_octets-requires : goal.write_octets-requires
write_octets-requires c =
    let n = length c.args.reply.now in
    let t = room_behind _ (n + n + 7) c.requires.2 c.write_field.ensures (omega (arith, number-long c.args.number 32 c.requires.0)) in
    room_behind (n + n + 7) _ t c.write_field-2.ensures (omega (arith, number-long c.args.position 32 c.requires.1))

pub returns : goal.returns
unfolding full_line
returns c =
    let n = number-long c.args.number 32 c.requires.0 in
    let k = number-long c.args.position 32 c.requires.1 in
    let t = room_behind _ 5 c.requires.2 c.write_field.ensures (omega (arith, n)) in
    rw (← field_wide c.args.number c.requires.0, ← field_wide c.args.position c.requires.1)
    (prints_both (omega (arith, c.requires.2, n)) c.write_field.ensures (prints_both (omega (arith, t, k)) c.write_field-2.ensures c.write_octets.ensures))
