-- `telling::write_head` meets its contract.
use native.Mathlib.Omega.{arith}
use Rattle.octets.specs.Letters.{letters}
use Rattle.words.specs.Lines.{complete_line, notify_line, fixed_line}
use Rattle.telling.proofs.Tells.{complete-head, notify_head}
use Rattle.telling.proofs.write_head.Goals as goal

pub write_fixed-requires : goal.write_fixed-requires
unfolding fixed_line complete_line letters
write_fixed-requires c = omega arith

pub returns-then-message-eq-TYPE_COMPLETE : goal.returns-then-message-eq-TYPE_COMPLETE
unfolding fixed_line
returns-then-message-eq-TYPE_COMPLETE c = rw (complete-head _ c.if-message-eq-TYPE_COMPLETE.true) c.write_fixed.ensures

pub write_fixed-requires-2 : goal.write_fixed-requires-2
unfolding fixed_line notify_line letters
write_fixed-requires-2 c = omega arith

pub returns : goal.returns
unfolding fixed_line
returns c = rw (notify_head _ c.if-message-eq-TYPE_COMPLETE.false) c.write_fixed-2.ensures
