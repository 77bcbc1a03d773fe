-- `memory::put_cell` meets its contract.
use Prim.Native.Nat.{◌+◌, ◌*◌}
use native.Mathlib.Omega.{arith}
use mathlib.Core.Path.{◌∙◌}
use borrow.Rule.Slice.PartMut.{mid_len}
use Rattle.meaning.specs.Table.{row_at}
use Rattle.meaning.specs.Memory.{cell_of}
use Rattle.meaning.proofs.Places.{name-small}
use Rattle.table.proofs.Rows.{name_is}
use Rattle.memory.proofs.Cells.{cell-back}
use Rattle.memory.proofs.put_cell.Goals as goal

pub write_cell-requires : goal.write_cell-requires
write_cell-requires c =
    let r = c.row_at-row in
    let at = 6 * c.args.k in
    (mid_len at (at + 6) c.args.m.now (omega (arith, c.requires.0)) ∙ omega arith, omega (arith, name_is r.result (row_at c.args.k) r.ensures.0, name-small c.args.k c.requires.0), c.requires.1)

pub returns : goal.returns
unfolding cell_of
returns c =
    let a = c.args in
    let r = c.row_at-row in
    cell-back a.m.now _ a.k a.f a.n (c.write_cell.ensures ∙ rw (name_is r.result (row_at a.k) r.ensures.0))
