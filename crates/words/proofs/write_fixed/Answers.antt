-- `words::write_fixed` meets its contract.
use Prim.Native.Nat.{ℕ, ◌+◌, ◌≤◌}
use mathlib.Core.Path.{◌≡◌, subst}
use lib.ListN.{length}
use Rattle.octets.specs.Letters.{letters}
use Rattle.words.specs.Lines.{complete_line, notify_line, not_a_message, fixed_line}
use Rattle.words.specs.declared.Fixed.{Fixed}
use Rattle.words.proofs.write_fixed.Goals as goal

-- what is asked of the room, by the line
room : (at long : ℕ) (f g : Fixed) → f ≡ g → at + length (fixed_line f) ≤ long → at + length (fixed_line g) ≤ long
room at long f g e h = subst (λ (x : Fixed). at + length (fixed_line x) ≤ long) e h

pub print-requires : goal.print-requires
unfolding fixed_line complete_line letters
print-requires c = room _ _ _ _ c.in-Complete.is c.requires

pub returns-in-Complete : goal.returns-in-Complete
unfolding fixed_line complete_line letters
returns-in-Complete c = rw c.in-Complete.is c.print.ensures

pub print-requires-in-Notify : goal.print-requires-in-Notify
unfolding fixed_line notify_line letters
print-requires-in-Notify c = room _ _ _ _ c.in-Notify.is c.requires

pub returns-in-Notify : goal.returns-in-Notify
unfolding fixed_line notify_line letters
returns-in-Notify c = rw c.in-Notify.is c.print-in-Notify.ensures

pub print-requires-in-NotAMessage : goal.print-requires-in-NotAMessage
unfolding fixed_line not_a_message letters
print-requires-in-NotAMessage c = room _ _ _ _ c.in-NotAMessage.is c.requires

pub returns-in-NotAMessage : goal.returns-in-NotAMessage
unfolding fixed_line not_a_message letters
returns-in-NotAMessage c = rw c.in-NotAMessage.is c.print-in-NotAMessage.ensures
