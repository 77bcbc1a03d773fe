-- `memory::name_cells` meets its contract.
use mathlib.Core.Path.{◌≡◌}
use Rattle.meaning.specs.Memory.{absent}
use Rattle.memory.proofs.name_cells.Given as goal

abbrev pub invariant-loop-k : goal.invariant-loop-k
invariant-loop-k l = l.m ≡ absent l.k l.initial.m
