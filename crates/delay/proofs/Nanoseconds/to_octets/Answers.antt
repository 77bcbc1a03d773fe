-- `delay::Nanoseconds::to_octets` meets its contract.
use Rattle.meaning.specs.Delay.{delay}
use Rattle.delay.proofs.Nanoseconds.to_octets.Goals as goal

pub returns : goal.returns
unfolding delay
returns c = cc
