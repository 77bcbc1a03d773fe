-- `tally::Tally::fits` meets its contract.
use mathlib.Core.Bool.{and-true}
use Rattle.meaning.specs.Octets.{every}
use Rattle.tally.specs.Tallies.{tally_fits}
use Rattle.tally.proofs.Tally.fits.Goals as goal

pub returns : goal.returns
unfolding tally_fits every
returns c = simp and-true
