-- `schedule::write_sums` meets its contract.
use Rattle.std.proofs.Common.{◌++◌, refl, ◌∙◌, arith}
use Rattle.meaning.specs.Octets.{be16}
use Rattle.octets.proofs.Splices.{then, splice_all}
use Rattle.schedule.proofs.write_sums.Goals as goal

pub returns : goal.returns
unfolding be16
returns c =
    let out = c.args.out.now in
    let p = c.args.s.first in
    let q = c.args.s.second in
    then out (be16 p) (be16 q) 0 2 (omega (arith, c.requires)) refl (rw c.from.ensures at c.put16.ensures) (rw c.from-2.ensures at c.put16-2.ensures)
    ∙ splice_all out (be16 p ++ be16 q) (omega (arith, c.requires))
