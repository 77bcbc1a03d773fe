-- `capture::number` meets its contract.
use mathlib.Core.Path.{sym, ap, ◌∙◌}
use Rattle.capture.specs.Handing.{number_of}
use Rattle.capture.proofs.number.Goals as goal

pub returns-in-Ok : goal.returns-in-Ok
unfolding number_of
returns-in-Ok c = rw c.in-Ok.is

pub returns-in-Err : goal.returns-in-Err
unfolding number_of
returns-in-Err c = c.number.ensures ∙ sym (ap number_of c.in-Err.is)
