-- `typed::digit` meets its contract.
use Rattle.typed.proofs.Signs.{by_decimal, by_letter}
use Rattle.typed.proofs.digit.Goals as goal

pub returns-then-decimal-letter : goal.returns-then-decimal-letter
returns-then-decimal-letter c =
    rw c.from-x.ensures (by_decimal c.args.c c.ranges.c.fits (rw c.from-x.ensures at c.if-decimal-letter.true))

pub returns : goal.returns
returns c =
    rw c.from-x.ensures (by_letter c.args.c c.ranges.c.fits (rw c.from-x.ensures at c.if-decimal-letter.false))
