-- `delay::DelayUnits::to_nanoseconds` meets its contract.
use borrow.Author.Rules.{rules}
use Rattle.meaning.specs.Delay.{nanoseconds_in, units_over}
use Rattle.delay.proofs.DelayUnits.to_nanoseconds.Goals as goal

pub returns : goal.returns
unfolding nanoseconds_in units_over
returns c = search rules
