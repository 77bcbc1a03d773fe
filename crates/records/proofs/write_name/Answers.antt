-- `records::write_name` meets its contract.
use native.Mathlib.Omega.{arith}
use mathlib.Core.Path.{◌≡◌, refl, sym, ap, ◌∙◌}
use lib.ListN.{length}
use Rattle.meaning.specs.Octets.{be16}
use Rattle.meaning.proofs.Places.{name-small}
use Rattle.table.proofs.Rows.{name_is}
use Rattle.records.proofs.Names.{name_at, name-listed, name_unlisted}
use Rattle.records.proofs.Pieces.{wrote_none, wrote_this}
use Rattle.records.proofs.write_name.Goals as goal
use Rattle.records.proofs.write_name.Goals.{After-row_at-row}

-- what is to be written of a listed name is the name of the row
named : (c : After-row_at-row)
    → let a = c.args in
    name_at a.profile a.k ≡ be16 c.row_at-row.result.name
named c =
    let a = c.args in
    name-listed a.profile a.k (sym c.lists.ensures ∙ c.if-not-lists.false) (name_is _ _ c.row_at-row.ensures.0)

pub returns-then-not-lists : goal.returns-then-not-lists
returns-then-not-lists c =
    let a = c.args in
    wrote_none a.out.now a.at (name_unlisted a.profile a.k (sym c.lists.ensures ∙ c.if-not-lists.true))

pub put16-requires : goal.put16-requires
unfolding be16
put16-requires c =
    (omega (arith, c.requires.1, ap length (named (goal.at.put16-requires c).After-row_at-row)), omega (arith, name_is _ _ c.row_at-row.ensures.0, name-small c.args.k c.requires.0))

pub returns : goal.returns
unfolding be16
returns c =
    let a = c.args in
    wrote_this a.out.now a.at (named (goal.at.returns c).After-row_at-row) (refl, c.put16.ensures)
