-- `rig::start` meets its contract.
use native.Mathlib.Omega.{arith}
use mathlib.Core.Path.{sym, ap, ◌∙◌}
use lib.ListN.{take}
use lib.Seq.{length-take-le}
use Rattle.meaning.specs.Octets.{splice}
use Rattle.script.proofs.Lend.{front_kept, front_back}
use Rattle.rig.proofs.Script.{made_fresh}
use Rattle.rig.proofs.start.Goals as goal

pub slice_bounds-make_fresh-end-2 : goal.slice_bounds-make_fresh-end-2
slice_bounds-make_fresh-end-2 c =
    sym (length-take-le 2101 c.args.memory.now (omega (arith, c.requires)))

pub returns : goal.returns
returns c =
    let m = c.make_fresh in
    let a = c.args.memory.now in
    let l = length-take-le 2101 a (omega (arith, c.requires)) in
    (front_back a (take 2101 a) m.new.memory (front_kept a 2101 (omega (arith, c.requires))) (m.auto.memory ∙ l)).1 ∙ ap (splice a 0) (m.ensures.memory_is ∙ made_fresh (take 2101 a) l)
