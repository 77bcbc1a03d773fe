-- `reply::write_longs` meets its contract.
use native.Mathlib.Omega.{arith}
use mathlib.Core.Path.{◌≡◌, refl, ap}
use lib.ListN.{length}
use borrow.Author.Tests.{ne_eqb}
use Rattle.meaning.specs.Octets.{be16}
use Rattle.records.proofs.Pieces.{wrote_none, wrote_this}
use Rattle.reply.specs.Sections.{long_length}
use Rattle.reply.proofs.write_longs.Goals as goal
use Rattle.reply.proofs.write_longs.Goals.{Else-longs-eq0}

some_long : (c : Else-longs-eq0) → long_length c.args.longs ≡ be16 c.args.longs.octets
unfolding long_length
some_long c = rw (ne_eqb c.args.longs.count 0 c.if-longs-eq0.false)

pub returns-then-longs-eq0 : goal.returns-then-longs-eq0
unfolding long_length
returns-then-longs-eq0 c =
    let a = c.args in
    wrote_none a.out.now a.at (rw c.if-longs-eq0.true)

pub put16-requires : goal.put16-requires
unfolding be16
put16-requires c =
    (omega (arith, c.requires.1, ap length (some_long (goal.at.put16-requires c).Else-longs-eq0)), c.requires.0 c.if-longs-eq0.false)

pub returns : goal.returns
unfolding be16
returns c = wrote_this _ _ (some_long (goal.at.returns c).Else-longs-eq0) (refl, c.put16.ensures)
