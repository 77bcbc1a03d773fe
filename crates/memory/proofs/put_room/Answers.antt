-- `memory::put_room` meets its contract.
use Prim.Native.Nat.{◌+◌}
use native.Mathlib.Omega.{arith}
use borrow.Rule.Slice.PartMut.{mid_len}
use Rattle.meaning.specs.Table.{row_at}
use Rattle.table.proofs.Rows.{most_is}
use Rattle.memory.proofs.Cells.{room_back}
use Rattle.memory.proofs.put_room.Goals as goal

pub fill-requires : goal.fill-requires
fill-requires c =
    let r = c.row_at-row in
    let n = mid_len r.result.start (r.result.start + r.result.most) c.args.m.now (omega (arith, r.ensures.2)) in
    omega (arith, n, most_is r.result (row_at c.args.k) r.ensures.0, c.requires)

pub returns : goal.returns
returns c =
    let a = c.args in
    let r = c.row_at-row in
    let e = most_is r.result (row_at a.k) r.ensures.0 in
    let n = mid_len r.result.start (r.result.start + r.result.most) a.m.now (omega (arith, r.ensures.2)) in
    room_back a.m.now _ a.v.now a.k r.result.start r.result.most _ r.ensures.1 e n c.requires c.fill.ensures
