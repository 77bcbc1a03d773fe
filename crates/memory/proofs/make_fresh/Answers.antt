-- `memory::make_fresh` meets its contract.
use Rattle.memory.proofs.Cells.{fresh_made}
use Rattle.memory.proofs.make_fresh.Goals as goal

pub returns : goal.returns
returns c =
    fresh_made c.args.m.now c.told-m c.clear_from.ensures c.name_cells.ensures c.put_cell.ensures c.put_cell-2.ensures
