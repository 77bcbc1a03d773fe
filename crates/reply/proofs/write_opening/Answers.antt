-- `reply::write_opening` meets its contract.
use Prim.Native.Nat.{ℕ, ◌+◌, ◌≤◌}
use mathlib.Core.Path.{◌≡◌}
use mathlib.Core.Bool.{Bool, true}
use mathlib.Core.List.{List, [], ◌∷◌, ◌++◌}
use lib.ListN.{length}
use Rattle.meaning.specs.Octets.{be16}
use Rattle.records.proofs.Pieces.{Left, wrote_none, left_start, left_as, left_fits, first_fits, left_next, left_last}
use Rattle.reply.specs.Sections.{opening}
use Rattle.reply.proofs.write_opening.Goals as goal
use Rattle.reply.proofs.write_opening.Goals.{After-write_head-first}

-- where the element is needed
needed : {b : Bool} (out : List ℕ) (at id n count : ℕ) → b ≡ true → at + length (opening b id n count) ≤ length out
    → Left out at (opening b id n count) out at ((id ∷ be16 n) ++ (count ∷ []))
unfolding opening
needed out at id n count e h = left_as (rw e) (left_start out at (opening _ id n count) h)

headed : (c : After-write_head-first)
    → let a = c.args in
    Left a.out.now a.at (opening a.needed a.id a.n a.count) c.write_head-first.new.out c.write_head-first.result (a.count ∷ [])
unfolding be16
headed c =
    let a = c.args in
    left_next (a.id ∷ be16 a.n) (a.count ∷ []) (needed a.out.now a.at a.id a.n a.count c.if-not-needed.false c.requires.2) c.write_head-first.ensures

pub returns-then-not-needed : goal.returns-then-not-needed
unfolding opening
returns-then-not-needed c =
    let a = c.args in
    wrote_none a.out.now a.at (rw (c.if-not-needed.true))

pub write_head-first-requires : goal.write_head-first-requires
unfolding be16
write_head-first-requires c =
    let a = c.args in
    (first_fits (c.args.id ∷ be16 c.args.n) (c.args.count ∷ []) (needed a.out.now a.at a.id a.n a.count c.if-not-needed.false c.requires.2), c.requires.0 (c.if-not-needed.false))

pub write_count-requires : goal.write_count-requires
write_count-requires c = (left_fits (headed (goal.at.write_count-requires c).After-write_head-first), c.requires.1)

pub returns : goal.returns
returns c = left_last (headed (goal.at.returns c).After-write_head-first) c.write_count.ensures
