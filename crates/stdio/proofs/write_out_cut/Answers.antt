-- `stdio::write_out_cut` meets its contract.
use native.Mathlib.Omega.{arith}
use Rattle.stdio.specs.Pieces.{cut_line}
use Rattle.stdio.proofs.write_out_cut.Goals as goal

pub printed-requires : goal.printed-requires
unfolding cut_line
printed-requires g c = omega (arith, c.write_cut.ensures.place, c.write_cut.ensures.long)
