-- `text::write_shown` meets its contract.
use Rattle.text.proofs.Writes.{shown_none, shown-hex}
use Rattle.text.proofs.write_shown.Goals as goal

pub returns-then-is_empty : goal.returns-then-is_empty
returns-then-is_empty c = rw (shown_none c.args.src.now c.if-is_empty.ensures) c.push.ensures

pub returns : goal.returns
returns c = rw (shown-hex c.args.src.now c.if-is_empty.ensures) c.write_hex.ensures
