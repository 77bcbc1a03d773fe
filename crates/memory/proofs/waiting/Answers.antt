-- `memory::waiting` meets its contract.
use native.Mathlib.Omega.{arith}
use Rattle.meaning.specs.Memory.{timer, waiting}
use Rattle.meaning.proofs.Lists.{part-octet}
use Rattle.memory.proofs.waiting.Goals as goal

pub returns : goal.returns
unfolding waiting timer
returns c = rw (part-octet c.args.m.now 114 2 0 (omega arith))
