-- `notification::write_values` meets its contract.
use Rattle.octets.specs.Writing.{Wrote}
use Rattle.notification.specs.Reports.{values_due}
use Rattle.notification.proofs.write_values.Given as goal

abbrev pub invariant-loop-k : goal.invariant-loop-k
invariant-loop-k l = Wrote l.initial.out l.at (values_due l.m l.k) l.to l.out
