-- `memory::four_present` meets its contract.
use mathlib.Core.Bool.{and-true}
use Rattle.meaning.specs.Octets.{every}
use Rattle.meaning.specs.Memory.{four_present}
use Rattle.memory.proofs.four_present.Goals as goal

pub returns : goal.returns
unfolding four_present every
returns c = rw (c.has.ensures, c.has-2.ensures, c.has-3.ensures, c.has-4.ensures, and-true)
