-- `memory::room` meets its contract.
use native.Mathlib.Omega.{arith}
use mathlib.Core.Path.{ap, ◌∙◌}
use lib.ListN.{length}
use Rattle.meaning.specs.Table.{row_at}
use Rattle.meaning.specs.Memory.{room}
use Rattle.meaning.proofs.Lists.{length_part}
use Rattle.octets.proofs.Splices.{part_is}
use Rattle.table.proofs.Rows.{most_is}
use Rattle.memory.proofs.room.Goals as goal

pub returns : goal.returns
unfolding room
returns c =
    let r = c.row_at-row in
    let m = c.args.m.now in
    let e = most_is r.result (row_at c.args.k) r.ensures.0 in
    let p = part_is m r.result.start r.result.most in
    (p ∙ rw (r.ensures.1, e), ap length p ∙ length_part m r.result.start r.result.most (omega (arith, r.ensures.2, c.told-m)) ∙ e)
