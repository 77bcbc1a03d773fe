-- `script::write_move` meets its contract.
use native.Mathlib.Omega.{arith}
use mathlib.Core.Path.{sym}
use lib.Seq.{length-take-le}
use Rattle.script.proofs.MoveTold.{number_short}
use Rattle.script.proofs.write_move.Goals as goal

pub slice_bounds-write_line-end : goal.slice_bounds-write_line-end
slice_bounds-write_line-end c =
    let w = c.written-n in
    sym (length-take-le w.result c.args.room.now (omega (arith, w.ensures, c.requires.0)))

pub write_line-requires : goal.write_line-requires
write_line-requires c =
    let w = c.written-n in
    (omega (arith, c.number.ensures, number_short c.args.answer), omega (arith, slice_bounds-write_line-end c, w.ensures, c.requires.0, c.requires.1))

pub returns : goal.returns
returns c =
    rw (c.number.ensures, c.written-n.ensures) at c.write_line.ensures
