-- `command::carry_out` meets its contract.
use mathlib.Core.Path.{refl, sym, ap, ◌∙◌}
use Rattle.meaning.specs.Step.{step, answer}
use Rattle.wire.proofs.Causes.{octet_some}
use Rattle.operation.specs.Handing.{op_of}
use Rattle.command.specs.declared.Answer.TheVariants.{ReadError, UpdateError}
use Rattle.command.specs.Answers.{told, told_read, failed_check}
use Rattle.command.proofs.Sets.{answer-update, answer-cause}
use Rattle.command.proofs.carry_out.Goals as goal

pub set-requires : goal.set-requires
set-requires c = (c.requires.0, (rw c.in-Set.is at c.requires.1).1)

pub returns-in-Ok : goal.returns-in-Ok
unfolding op_of step answer told_read
returns-in-Ok c = rw c.in-Read.is (record { m_after = refl; value = c.in-Ok.ensures })

pub returns-in-Err : goal.returns-in-Err
unfolding op_of step answer told_read
returns-in-Err c = rw c.in-Read.is (record { m_after = refl; value = ap ReadError c.from.ensures ∙ c.in-Err.ensures })

pub returns-in-Ok-set : goal.returns-in-Ok-set
unfolding op_of step answer told failed_check
returns-in-Ok-set c =
    let e = c.in-Ok-set.ensures in
    let v = c.in-Set.v in
    rw c.in-Set.is (record { m_after = e.1; value = sym (ap told (answer-update _ c.args.m.now v.name _ (sym e.0))) })

pub returns-in-Err-set : goal.returns-in-Err-set
unfolding op_of step answer told failed_check
returns-in-Err-set c =
    let e = c.in-Err-set.ensures in
    let v = c.in-Set.v in
    rw c.in-Set.is (record { m_after = e.1; value = ap UpdateError c.from-in-Err-set.ensures ∙ sym (ap told (answer-cause _ c.args.m.now v.name _ _ e.0 (octet_some c.in-Err-set.cause))) })
