-- `answers::write_outcome` meets its contract.
use Prim.Native.Nat.{ℕ, ◌+◌}
use native.Mathlib.Omega.{arith}
use mathlib.Core.Path.{sym, ap, ◌∙◌}
use mathlib.Core.List.{List}
use lib.ListN.{length}
use lib.Seq.{length-take-le}
use Rattle.meaning.specs.Octets.{splice}
use Rattle.answers.proofs.Answered.{number_short, answer_is}
use Rattle.answers.proofs.write_outcome.Goals as goal

pub slice_bounds-write_line-end : goal.slice_bounds-write_line-end
slice_bounds-write_line-end c =
    let w = c.written-n in
    sym (length-take-le w.result c.args.room.now (omega (arith, w.ensures, c.requires.0)))

pub write_line-requires : goal.write_line-requires
write_line-requires c =
    let w = c.written-n in
    (omega (arith, c.number.ensures, number_short c.args.outcome), omega (arith, sym (length-take-le w.result c.args.room.now (omega (arith, w.ensures, c.requires.0))), w.ensures, c.requires.0, c.requires.1))

pub returns : goal.returns
returns c = rw (← answer_is c.args.outcome c.args.room.now _ _ c.number.ensures c.written-n.ensures) c.write_line.ensures
