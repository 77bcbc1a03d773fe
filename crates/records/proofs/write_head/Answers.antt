-- `records::write_head` meets its contract.
use native.Mathlib.Omega.{arith}
use mathlib.Core.Path.{refl, ◌∙◌}
use lib.ListN.{length-set}
use borrow.Author.Rules.{rules}
use Rattle.meaning.specs.Octets.{be16}
use Rattle.records.proofs.Written.{head-written}
use Rattle.records.proofs.write_head.Goals as goal

pub put16-requires : goal.put16-requires
put16-requires c = (simp length-set (omega arith), search rules)

pub shape_of-out : goal.shape_of-out
shape_of-out c = c.put16.auto.s ∙ simp length-set

pub returns : goal.returns
unfolding be16
returns c =
    let a = c.args in
    (refl, head-written a.out.now a.at a.id a.n c.requires.0 c.put16.ensures)
