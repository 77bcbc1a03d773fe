-- `notification::write_absent` meets its contract.
use Rattle.octets.specs.Writing.{Wrote}
use Rattle.notification.specs.Reports.{absent_due}
use Rattle.notification.proofs.write_absent.Given as goal

abbrev pub invariant-loop-k : goal.invariant-loop-k
invariant-loop-k l = Wrote l.initial.out l.at (absent_due l.profile l.m l.k) l.to l.out
