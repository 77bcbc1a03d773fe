-- `memory::write_cell` meets its contract.
use Rattle.memory.proofs.Cells.{cell-written}
use Rattle.memory.proofs.write_cell.Goals as goal

pub returns : goal.returns
returns c =
    cell-written c.args.c.now c.args.name c.args.f c.args.n c.requires.0 c.put16.ensures c.put16-2.ensures
