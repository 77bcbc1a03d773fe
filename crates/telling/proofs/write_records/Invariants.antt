-- `telling::write_records` meets its contract. What is left to be told, behind what has been, makes up all.
use lib.ListN.{length}
use Rattle.telling.specs.Remaining.{remaining}
use Rattle.telling.proofs.Records.{Telling}
use Rattle.telling.proofs.write_records.Given as goal

abbrev pub invariant-loop-handed : goal.invariant-loop-handed
invariant-loop-handed l = Telling l.message l.initial.page l.initial.handed l.page l.handed

abbrev pub decreases-loop-handed : goal.decreases-loop-handed
decreases-loop-handed l = length (remaining l.message l.handed)
