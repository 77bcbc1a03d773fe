-- `text::write_long_decimal` meets its contract.
use native.Mathlib.Omega.{arith}
use mathlib.Core.Path.{ap}
use lib.ListN.{length}
use Rattle.page.proofs.Prints.{room_behind, prints_both}
use Rattle.text.proofs.Writes.{long_one, long_two, hundreds-length}
use Rattle.text.proofs.write_long_decimal.Goals as goal

pub write_decimal-requires : goal.write_decimal-requires
write_decimal-requires c = (c.if-number-lt100.true, omega (arith, ap length (long_one c.args.number c.if-number-lt100.true), c.requires.1))

pub returns-then-number-lt100 : goal.returns-then-number-lt100
returns-then-number-lt100 c = rw (long_one c.args.number c.if-number-lt100.true) c.write_decimal.ensures

pub write_decimal-requires-2 : goal.write_decimal-requires-2
write_decimal-requires-2 c = (omega (arith, c.requires.0), omega (arith, hundreds-length c.args.number c.if-number-lt100.false, c.requires.1))

pub print-requires : goal.print-requires
print-requires c = room_behind _ 2 c.requires.1 c.write_decimal-2.ensures (omega (arith, hundreds-length c.args.number c.if-number-lt100.false))

pub returns : goal.returns
returns c =
    rw (long_two c.args.number _ _ c.if-number-lt100.false c.digit.ensures c.digit-2.ensures)
    (prints_both (omega (arith, hundreds-length c.args.number c.if-number-lt100.false, c.requires.1)) c.write_decimal-2.ensures c.print.ensures)
