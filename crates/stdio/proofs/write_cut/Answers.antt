-- `stdio::write_cut` meets its contract.
use Rattle.stdio.specs.Pieces.{cut_line}
use Rattle.stdio.proofs.write_cut.Goals as goal

pub returns : goal.returns
unfolding cut_line
returns c = c.print.ensures
