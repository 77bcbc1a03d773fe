-- `delay::from_octets` meets its contract.
use mathlib.Core.Path.{◌≡◌, ◌∙◌}
use borrow.Author.Tests.{ne_eqb, eq-eqb}
use Rattle.meaning.specs.Delay.{low_number}
use Rattle.delay.specs.Stored.{stored_in}
use Rattle.delay.proofs.Spelt.{low_read}
use Rattle.delay.proofs.from_octets.Goals as goal

pub returns-in_err-octets : goal.returns-in_err-octets
unfolding stored_in
returns-in_err-octets c = simp (c.from_residual.ensures, ne_eqb _ 8 c.in_err-octets.ensures.cases)

pub returns : goal.returns
unfolding stored_in
returns c =
    let h = c.in_ok-octets.ensures.cases in
    let e : c.from_le_bytes.result ≡ low_number c.args.s.now = rw h.same at (c.from_le_bytes.ensures) ∙ low_read c.args.s.now h.long in
    simp (eq-eqb _ 8 h.long, e)
