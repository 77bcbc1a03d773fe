-- `reply::write_capabilities` meets its contract.
use native.Mathlib.Omega.{arith}
use mathlib.Core.List.{◌∷◌, ◌++◌}
use Rattle.meaning.specs.Octets.{be16}
use Rattle.meaning.specs.Reply.{element, all_names}
use Rattle.meaning.proofs.Contents.{names-length}
use Rattle.records.proofs.Pieces.{Left, wrote_none, left_start, left_as, left_fits, first_fits, left_next, left_last}
use Rattle.reply.proofs.Parts.{names_parts}
use Rattle.reply.proofs.write_capabilities.Goals as goal
use Rattle.reply.proofs.write_capabilities.Goals.{After-names_length-n, After-write_head-first}

-- where the names are asked
whole : (c : After-names_length-n)
    → let a = c.args in
    Left a.out.now a.at (element 0x70 a.needed (all_names a.profile)) a.out.now a.at ((0x70 ∷ be16 c.names_length-n.result) ++ all_names a.profile)
whole c =
    let a = c.args in
    rw c.names_length-n.ensures.0
    (left_as (rw (c.if-not-needed.false) (names_parts a.profile)) (left_start a.out.now a.at (element 0x70 a.needed (all_names a.profile)) c.requires))

headed : (c : After-write_head-first)
    → let a = c.args in
    Left a.out.now a.at (element 0x70 a.needed (all_names a.profile)) a.out.now a.at ((0x70 ∷ be16 c.names_length-n.result) ++ all_names a.profile)
    → Left a.out.now a.at (element 0x70 a.needed (all_names a.profile)) c.write_head-first.new.out c.write_head-first.result (all_names a.profile)
headed c b = left_next (0x70 ∷ be16 c.names_length-n.result) (all_names c.args.profile) b c.write_head-first.ensures

pub returns-then-not-needed : goal.returns-then-not-needed
unfolding element
returns-then-not-needed c =
    let a = c.args in
    wrote_none a.out.now a.at (rw (c.if-not-needed.true))

pub write_head-first-requires : goal.write_head-first-requires
unfolding be16
write_head-first-requires c =
    (first_fits (0x70 ∷ be16 c.names_length-n.result) (all_names c.args.profile) (whole (goal.at.write_head-first-requires c).After-names_length-n), omega (arith, c.names_length-n.ensures.1))

pub write_names-requires : goal.write_names-requires
write_names-requires c =
    let places = goal.at.write_names-requires c in
    omega (arith, left_fits (headed places.After-write_head-first (whole places.After-names_length-n)), names-length c.args.profile)

pub returns : goal.returns
returns c =
    let places = goal.at.returns c in
    let p = c.write_names.ensures in
    left_last (headed places.After-write_head-first (whole places.After-names_length-n)) p
