-- `desk::answer_lines` meets its contract. What is left to print, behind what was, makes up all.
use Prim.Native.Nat.{◌-◌}
use lib.ListN.{length}
use Rattle.typed.specs.Forms.{typed_in}
use Rattle.desk.proofs.Turns.{Turning}
use Rattle.desk.proofs.answer_lines.Given as goal

abbrev pub invariant-loop-page : goal.invariant-loop-page
invariant-loop-page l = Turning l.held (typed_in l.initial.octets l.initial.read) l.from l.octets l.read l.next l.page

abbrev pub decreases-loop-page : goal.decreases-loop-page
decreases-loop-page l = length l.held - l.next
