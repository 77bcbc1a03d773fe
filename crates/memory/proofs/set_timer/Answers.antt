-- `memory::set_timer` meets its contract.
use native.Mathlib.Omega.{arith}
use Rattle.meaning.specs.Memory.{set_timer}
use Rattle.octets.proofs.Splices.{two_stores}
use Rattle.memory.proofs.set_timer.Goals as goal

pub returns : goal.returns
unfolding set_timer
returns c = two_stores c.args.m.now 114 c.args.waiting c.args.expiries (omega (arith, c.told-m))
