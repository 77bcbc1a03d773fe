-- `text::fill_hex` meets its contract. With the digits of the octets that are left, the room is what it is to be.
use Prim.Native.Nat.{◌*◌}
use mathlib.Core.Path.{◌≡◌}
use lib.ListN.{drop}
use Rattle.meaning.specs.Octets.{splice}
use Rattle.text.specs.Lines.{hex}
use Rattle.text.proofs.fill_hex.Given as goal

abbrev pub invariant-loop-i : goal.invariant-loop-i
invariant-loop-i l = (splice l.room (2 * l.i) (hex (drop l.i l.src)) ≡ hex l.src)
