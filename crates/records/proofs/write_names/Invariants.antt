-- `records::write_names` meets its contract. The loop's invariant: the names from the place on are what is left to write.
use Rattle.meaning.specs.Reply.{all_names}
use Rattle.records.proofs.Names.{names_from}
use Rattle.records.proofs.Pieces.{Left}
use Rattle.records.proofs.write_names.Given as goal

abbrev pub invariant-loop-k : goal.invariant-loop-k
invariant-loop-k l = Left l.initial.out l.at (all_names l.profile) l.out l.to (names_from l.profile l.k)
