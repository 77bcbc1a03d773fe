-- `delay::Nanoseconds::to_delay_units` meets its contract.
use native.Mathlib.Omega.{arith}
use mathlib.Core.Path.{sym}
use borrow.Author.Rules.{rules}
use Rattle.meaning.proofs.Delays.{units_exact, units_largest}
use Rattle.delay.proofs.Nanoseconds.to_delay_units.Goals as goal

pub returns-then-self-lt-TOO_LONG : goal.returns-then-self-lt-TOO_LONG
returns-then-self-lt-TOO_LONG c =
    (sym (units_exact c.args.self.0 (omega arith)), search rules)

pub returns-else-self-lt-TOO_LONG : goal.returns-else-self-lt-TOO_LONG
returns-else-self-lt-TOO_LONG c =
    (sym (units_largest c.args.self.0 (omega arith)), search rules)
