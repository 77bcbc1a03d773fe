-- `answers::write_in_full` meets its contract.
use Prim.Native.Nat.{ℕ, ◌+◌}
use native.Mathlib.Omega.{arith}
use mathlib.Core.Path.{sym, ap, ◌∙◌}
use mathlib.Core.List.{List}
use lib.ListN.{length}
use lib.Seq.{length-take-le}
use Rattle.meaning.specs.Octets.{splice}
use Rattle.answers.proofs.Answered.{number_short, full_answer_is}
use Rattle.answers.proofs.write_in_full.Goals as goal

pub slice_bounds-write_full_line-end : goal.slice_bounds-write_full_line-end
slice_bounds-write_full_line-end c =
    let w = c.written-n in
    sym (length-take-le w.result c.args.room.now (omega (arith, w.ensures, c.requires.0)))

pub write_full_line-requires : goal.write_full_line-requires
write_full_line-requires c =
    let w = c.written-n in (
      omega (arith, c.number.ensures, number_short c.args.outcome),
      omega (arith, c.position.ensures, c.requires.1),
      omega (arith, sym (length-take-le w.result c.args.room.now (omega (arith, w.ensures, c.requires.0))), w.ensures, c.requires.0, c.requires.2),
    )

pub returns : goal.returns
returns c =
    rw (← full_answer_is c.args.outcome c.args.room.now _ _ _ c.number.ensures c.position.ensures c.written-n.ensures) c.write_full_line.ensures
