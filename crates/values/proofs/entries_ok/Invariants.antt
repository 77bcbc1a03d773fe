-- `values::entries_ok` meets its contract: the entries passed and those left give what the whole list gives.
use mathlib.Core.Path.{◌≡◌}
use mathlib.Core.Bool.{◌&&◌}
use lib.ListN.{drop}
use Rattle.meaning.specs.Block.{each_ok}
use Rattle.values.proofs.entries_ok.Given as goal

abbrev pub invariant-loop-e : goal.invariant-loop-e
invariant-loop-e l = (l.ok && each_ok (drop l.e-index l.entries)) ≡ each_ok l.entries
