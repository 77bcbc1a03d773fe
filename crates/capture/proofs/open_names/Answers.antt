-- `capture::open_names` meets its contract.
use Rattle.capture.proofs.Openings.{names_unread, names_odd, names_left}
use Rattle.capture.proofs.open_names.Goals as goal

pub returns-then-p-eq0 : goal.returns-then-p-eq0
returns-then-p-eq0 c = names_unread _ _ c.if-p-eq0.true

pub returns-then-p-ne0 : goal.returns-then-p-ne0
returns-then-p-ne0 c = names_odd _ _ c.if-p-eq0.false c.if-p-ne0.true

pub returns : goal.returns
returns c = names_left _ _ c.if-p-eq0.false c.if-p-ne0.false
