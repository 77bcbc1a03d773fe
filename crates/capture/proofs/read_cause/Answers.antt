-- `capture::read_cause` meets its contract.
use mathlib.Core.Path.{◌∙◌}
use borrow.Author.Tests.{eq-eqb, ne_eqb}
use Rattle.meaning.specs.Capture.{read_cause}
use Rattle.capture.proofs.read_cause.Goals as goal

pub returns-then-cause-eq-CAUSE_UNAVAILABLE : goal.returns-then-cause-eq-CAUSE_UNAVAILABLE
unfolding read_cause
returns-then-cause-eq-CAUSE_UNAVAILABLE c = rw (eq-eqb _ 3 c.if-cause-eq-CAUSE_UNAVAILABLE.true)

pub returns : goal.returns
unfolding read_cause
returns c = c.update_cause.ensures ∙ rw (ne_eqb _ 3 c.if-cause-eq-CAUSE_UNAVAILABLE.false)
