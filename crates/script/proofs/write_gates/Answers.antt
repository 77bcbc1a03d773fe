-- `script::write_gates` meets its contract.
use native.Mathlib.Omega.{arith}
use Rattle.gates.specs.Answers.{told, answer_of}
use Rattle.script.specs.Instructions.{gates_line}
use Rattle.script.proofs.Instants.{refused-line, not_started-line}
use Rattle.script.proofs.write_gates.Goals as goal

pub write_line-requires : goal.write_line-requires
write_line-requires c =
    (rw c.number-number.ensures (refused-line c.args.answer c.in_default.not-Ok).0, omega (arith, c.requires))

pub returns-in_default : goal.returns-in_default
returns-in_default c =
    rw (refused-line c.args.answer c.in_default.not-Ok).1 (rw c.number-number.ensures at c.write_line.ensures)

pub write_line-requires-in-NotStarted : goal.write_line-requires-in-NotStarted
write_line-requires-in-NotStarted c =
    (rw (c.number-number.ensures, c.in-Ok.is, c.in-NotStarted.is) not_started-line.0, omega (arith, c.requires))

pub returns-in-NotStarted : goal.returns-in-NotStarted
returns-in-NotStarted c =
    rw (c.in-Ok.is, c.in-NotStarted.is, not_started-line.1) (rw (c.number-number.ensures, c.in-Ok.is, c.in-NotStarted.is) at c.write_line-in-NotStarted.ensures)

pub returns-in-Open : goal.returns-in-Open
unfolding told answer_of gates_line
returns-in-Open c = rw (c.in-Ok.is, c.in-Open.is) c.write_open_line.ensures
