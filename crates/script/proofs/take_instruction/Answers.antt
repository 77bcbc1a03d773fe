-- `script::take_instruction` meets its contract.
use Prim.Native.Nat.{◌≤◌}
use native.Mathlib.Omega.{arith}
use mathlib.Core.Path.{◌≡◌, sym, ap, ◌∙◌}
use lib.ListN.{length, take}
use Rattle.script.specs.Takes.{code_of}
use Rattle.script.proofs.Codes.{lend_body, lend_row}
use Rattle.script.proofs.Lend.{lend_left}
use Rattle.script.proofs.take_instruction.Goals as goal
use Rattle.script.proofs.take_instruction.Goals.{In-Lend}

-- the code of the instruction that lends other memory
five : (c : In-Lend) → 5 ≡ c.args.code
five c = sym (ap code_of c.in-Lend.is) ∙ c.in_ok-made.ensures.0

short : (c : In-Lend) → length c.args.body.now ≤ 2200
short c = lend_body (length c.args.body.now) (rw (five c) c.in_ok-made.ensures.1)

pub append-k-requires : goal.append-k-requires
append-k-requires c = omega (arith, short (goal.at.append-k-requires c).In-Lend, c.requires.0)

pub write_lent-requires : goal.write_lent-requires
write_lent-requires c =
    (omega (arith, short (goal.at.write_lent-requires c).In-Lend, c.append-k.ensures.0), omega (arith, c.requires.3))

pub returns-in-Lend : goal.returns-in-Lend
returns-in-Lend c =
    let a = c.args in
    let k = c.append-k in
    let l = (goal.at.returns-in-Lend c).In-Lend in (
      c.in_ok-made.ensures.1,
      lend_left _ (omega (arith, short l, k.ensures.0), c.requires.2.1) a.body.now a.memory.now k.new.out a.room.now
          (rw (sym (five l)) (lend_row a.body.now (take a.lent.memory a.memory.now) (take a.lent.room a.room.now))) k.ensures c.requires.1 c.write_lent.ensures,
    )
