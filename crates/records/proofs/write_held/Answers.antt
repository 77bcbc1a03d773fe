-- `records::write_held` meets its contract.
use borrow.Author.Rules.{rules}
use Rattle.meaning.specs.Octets.{be16}
use Rattle.records.proofs.Written.{held-written}
use Rattle.records.proofs.write_held.Goals as goal

pub append-requires : goal.append-requires
unfolding be16
append-requires c = search rules

pub returns : goal.returns
returns c =
    let a = c.args in
    held-written a.out.now a.value.now a.at a.name c.requires.0 c.write_value_head-from.ensures c.append.ensures
