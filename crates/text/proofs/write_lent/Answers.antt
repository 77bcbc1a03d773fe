-- `text::write_lent` meets its contract.
use native.Mathlib.Omega.{arith}
use Rattle.page.proofs.Prints.{room_behind, prints_both}
use Rattle.text.specs.Lines.{lent_line}
use Rattle.text.proofs.Writes.{long-short}
use Rattle.text.proofs.write_lent.Goals as goal

pub write_long_decimal-requires : goal.write_long_decimal-requires
write_long_decimal-requires c = (c.requires.0, room_behind 10 _ c.requires.1 c.print.ensures (omega (arith, long-short c.args.lent)))

pub push-requires : goal.push-requires
push-requires c =
    let t = room_behind 10 5 c.requires.1 c.print.ensures (omega arith) in
    room_behind 5 1 t c.write_long_decimal.ensures (omega (arith, long-short c.args.lent))

pub returns : goal.returns
unfolding lent_line
returns c =
    let t = room_behind 10 5 c.requires.1 c.print.ensures (omega arith) in
    prints_both (omega (arith, c.requires.1)) c.print.ensures
    (prints_both (omega (arith, t, long-short c.args.lent)) c.write_long_decimal.ensures c.push.ensures)
