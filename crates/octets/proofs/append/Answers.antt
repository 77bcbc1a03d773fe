-- `octets::append` meets its contract.
use mathlib.Core.Path.{refl}
use Rattle.octets.proofs.Splices.{copied_in}
use Rattle.octets.proofs.append.Goals as goal

pub returns : goal.returns
returns c =
    let at = c.args.at in
    let out = c.args.out.now in
    let src = c.args.src.now in
    let p = c.copy_from_slice in
    (refl, copied_in out src p.new.self at c.requires p.ensures.after)
