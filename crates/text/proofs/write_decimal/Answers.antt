-- `text::write_decimal` meets its contract.
use native.Mathlib.Omega.{arith}
use mathlib.Core.Path.{ap}
use lib.ListN.{length}
use Rattle.text.proofs.Writes.{decimal_one, decimal_two}
use Rattle.text.proofs.write_decimal.Goals as goal

pub push-requires : goal.push-requires
push-requires c = omega (arith, ap length (decimal_one c.args.number _ c.if-number-lt10.true c.digit.ensures), c.requires.1)

pub returns-then-number-lt10 : goal.returns-then-number-lt10
returns-then-number-lt10 c = rw (decimal_one c.args.number _ c.if-number-lt10.true c.digit.ensures) c.push.ensures

pub print-requires : goal.print-requires
print-requires c = omega (arith, ap length (decimal_two c.args.number _ _ c.if-number-lt10.false c.digit-2.ensures c.digit-3.ensures), c.requires.1)

pub returns : goal.returns
returns c = rw (decimal_two c.args.number _ _ c.if-number-lt10.false c.digit-2.ensures c.digit-3.ensures) c.print.ensures
