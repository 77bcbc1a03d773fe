-- `typed::paired` meets its contract.
use native.Mathlib.Omega.{arith}
use mathlib.Core.Path.{ap}
use mathlib.Core.Bool.{and-false}
use borrow.Author.Tests.{lt-ltb, le-ltb}
use Rattle.typed.specs.declared.Form.TheVariants.{Number}
use Rattle.typed.specs.Forms.{paired}
use Rattle.typed.proofs.paired.Goals as goal

pub returns-then-d-lt10 : goal.returns-then-d-lt10
unfolding paired
returns-then-d-lt10 c = rw (lt-ltb _ 10 c.if-h-lt10.true, lt-ltb _ 10 c.if-d-lt10.true) (ap Number (omega (arith, c.from.ensures, c.from-then-d-lt10.ensures)))

pub returns-else-d-lt10 : goal.returns-else-d-lt10
unfolding paired
returns-else-d-lt10 c = rw (le-ltb _ 10 c.if-d-lt10.false, and-false)

pub returns-else-h-lt10 : goal.returns-else-h-lt10
unfolding paired
returns-else-h-lt10 c = rw (le-ltb _ 10 c.if-h-lt10.false)
