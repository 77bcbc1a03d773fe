-- `script::write_answer` meets its contract.
use mathlib.Core.Path.{ap}
use Rattle.script.specs.Takes.{call_code}
use Rattle.script.proofs.Codes.{nine}
use Rattle.script.proofs.Told.{in_full, in_short}
use Rattle.script.proofs.write_answer.Goals as goal

pub returns-in-MessageInFull : goal.returns-in-MessageInFull
returns-in-MessageInFull c =
    let a = c.args in
    rw (← in_full (call_code a.call) a.outcome a.room.now (ap call_code c.in-MessageInFull.is)) c.write_in_full.ensures

pub returns-in_default : goal.returns-in_default
returns-in_default c =
    let a = c.args in
    rw (← in_short (call_code a.call) a.outcome a.room.now (λ e. c.in_default.not-MessageInFull (nine a.call e))) c.write_outcome.ensures
