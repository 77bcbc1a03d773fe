-- `memory::put_flags` meets its contract.
use Prim.Native.Nat.{◌+◌, ◌*◌}
use native.Mathlib.Omega.{arith}
use Rattle.octets.proofs.Splices.{one_store}
use Rattle.memory.proofs.put_flags.Goals as goal

pub returns : goal.returns
returns c = one_store c.args.m.now (6 * c.args.k + 2) c.args.f (omega (arith, c.requires))
