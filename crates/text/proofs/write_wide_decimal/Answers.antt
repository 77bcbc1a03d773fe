-- `text::write_wide_decimal` meets its contract.
use native.Mathlib.Omega.{arith}
use mathlib.Core.Path.{ap}
use lib.ListN.{length}
use Rattle.text.proofs.Decimals.{told, long_wide}
use Rattle.text.proofs.write_wide_decimal.Goals as goal

pub write_long_decimal-requires : goal.write_long_decimal-requires
write_long_decimal-requires c = (c.if-number-lt10000.true, omega (arith, ap length (long_wide c.args.number c.if-number-lt10000.true), c.requires))

pub returns-then-number-lt10000 : goal.returns-then-number-lt10000
returns-then-number-lt10000 c = rw (long_wide c.args.number c.if-number-lt10000.true) c.write_long_decimal.ensures

pub print-requires : goal.print-requires
print-requires c =
    let d = c.decimal-n in
    let e = told d.new.out c.ranges.number.fits d.ensures.len d.ensures.digits in
    omega (arith, ap length e, c.requires)

pub returns : goal.returns
returns c =
    let d = c.decimal-n in
    rw (told d.new.out c.ranges.number.fits d.ensures.len d.ensures.digits) at c.print.ensures
