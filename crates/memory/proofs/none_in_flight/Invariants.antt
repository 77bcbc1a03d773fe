-- `memory::none_in_flight` meets its contract.
use mathlib.Core.Path.{◌≡◌}
use mathlib.Core.Bool.{not}
use Rattle.meaning.specs.Octets.{below}
use Rattle.meaning.specs.Memory.{in_flight}
use Rattle.memory.proofs.none_in_flight.Given as goal

abbrev pub invariant-loop-k : goal.invariant-loop-k
invariant-loop-k l = l.none ≡ below l.k (λ j. not (in_flight l.m j))
