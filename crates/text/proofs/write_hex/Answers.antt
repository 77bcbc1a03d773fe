-- `text::write_hex` meets its contract.
use native.Mathlib.Omega.{arith}
use mathlib.Core.Path.{refl, ap, ◌∙◌}
use lib.ListN.{length}
use Rattle.meaning.proofs.Lists.{splice-length}
use Rattle.octets.proofs.Splices.{copied_in}
use Rattle.text.specs.Lines.{hex}
use Rattle.text.proofs.Writes.{hex-length}
use Rattle.text.proofs.write_hex.Goals as goal

pub returns : goal.returns
returns c =
    let page = c.args.page.now in
    let digits = hex c.args.src.now in
    let n = hex-length c.args.src.now in
    let e = rw n at (copied_in page.room.now digits c.fill_hex.new.room page.at (omega (arith, n, c.requires)) c.fill_hex.ensures) in
    record { place = omega (arith, n); octets = e; room = refl; long = ap length e ∙ splice-length page.room.now page.at digits (omega (arith, n, c.requires)) }
