-- `values::cycle` meets its contract.
use native.Mathlib.Omega.{arith}
use borrow.Author.Tests.{leb-true}
use Rattle.meaning.specs.Octets.{at32}
use Rattle.meaning.specs.Block.{ratio_ok}
use Rattle.values.proofs.Values.{quotient}
use Rattle.values.proofs.cycle.Goals as goal

pub nonzero_div-result : goal.nonzero_div-result
unfolding ratio_ok
nonzero_div-result c =
    omega (arith, leb-true 1 (at32 c.args.v.now 4) c.requires.1, c.get32-denominator.ensures.0)

pub returns : goal.returns
returns c =
    quotient c.args.v.now _ _ c.get32-numerator.ensures.0 c.get32-denominator.ensures.0
