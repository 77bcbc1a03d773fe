-- `memory::expiries` meets its contract.
use native.Mathlib.Omega.{arith}
use mathlib.Core.Path.{sym}
use Rattle.meaning.specs.Memory.{timer, expiries}
use Rattle.meaning.proofs.Lists.{part-octet}
use Rattle.memory.proofs.expiries.Goals as goal

pub returns : goal.returns
unfolding expiries timer
returns c = sym (part-octet c.args.m.now 114 2 1 (omega arith))
