-- `page::Page::print` meets its contract.
use mathlib.Core.Path.{refl, ap, ◌∙◌}
use lib.ListN.{length}
use Rattle.meaning.proofs.Lists.{splice-length}
use Rattle.octets.proofs.Splices.{copied_in}
use Rattle.page.proofs.Page.print.Goals as goal

pub returns : goal.returns
returns c =
    let page = c.args.self.now in
    let src = c.args.src.now in
    let p = c.copy_from_slice in
    let e = copied_in page.room.now src p.new.self page.at c.requires p.ensures.after in
    record { place = refl; octets = e; room = refl; long = ap length e ∙ splice-length page.room.now page.at src c.requires }
