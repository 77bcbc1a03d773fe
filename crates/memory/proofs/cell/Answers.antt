-- `memory::cell` meets its contract.
use native.Mathlib.Omega.{arith}
use Rattle.memory.proofs.Cells.{chunk-is}
use Rattle.memory.proofs.cell.Goals as goal

pub returns : goal.returns
returns c = rw (c.as_chunks.ensures.front, c.told-m) (chunk-is 350 c.args.k c.args.m.now (omega (arith, c.requires)))
