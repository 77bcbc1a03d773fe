-- `text::write_line` meets its contract.
use Prim.Native.Nat.{◌+◌}
use native.Mathlib.Omega.{arith}
use lib.ListN.{length}
use Rattle.page.proofs.Prints.{room_behind, prints_both}
use Rattle.text.specs.Lines.{line}
use Rattle.text.proofs.Writes.{decimal-short}
use Rattle.text.proofs.write_line.Goals as goal

pub write_decimal-requires : goal.write_decimal-requires
write_decimal-requires c = (c.requires.0, omega (arith, c.requires.1, decimal-short c.args.number))

pub push-requires : goal.push-requires
push-requires c = room_behind _ 1 c.requires.1 c.write_decimal.ensures (omega (arith, decimal-short c.args.number))

pub write_octets-requires : goal.write_octets-requires
write_octets-requires c =
    let n = length c.args.reply.now in
    let t = room_behind _ (n + n + 3) c.requires.1 c.write_decimal.ensures (omega (arith, decimal-short c.args.number)) in
    room_behind (n + n + 3) _ t c.push.ensures (omega arith)

pub returns : goal.returns
unfolding line
returns c =
    let n = length c.args.reply.now in
    let t = room_behind _ (n + n + 3) c.requires.1 c.write_decimal.ensures (omega (arith, decimal-short c.args.number)) in
    prints_both (omega (arith, c.requires.1, decimal-short c.args.number)) c.write_decimal.ensures
    (prints_both (omega (arith, t)) c.push.ensures c.write_octets.ensures)
