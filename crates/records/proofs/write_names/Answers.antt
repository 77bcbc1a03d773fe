-- `records::write_names` meets its contract. The loop's invariant: the names from the place on are what is left to write.
use Prim.Native.Nat.{◌+◌}
use native.Mathlib.Omega.{arith}
use mathlib.Core.List.{◌++◌}
use Rattle.meaning.specs.Reply.{all_names}
use Rattle.records.proofs.Lengths.{names-length}
use Rattle.records.proofs.Names.{name_at, names_from, names-all, names-next, names_none}
use Rattle.records.proofs.Pieces.{Left, left_start, left_as, first_fits, left_next, left_none}
use Rattle.records.proofs.write_names.Goals as goal
use Rattle.records.proofs.write_names.Goals.{In-loop-k}

-- the name of the turn, and those behind it
turn : (c : In-loop-k)
    → let a = c.args in
    let l = c.loop-k in
    Left a.out.now a.at (all_names a.profile) l.out l.to (name_at a.profile l.k ++ names_from a.profile (l.k + 1))
turn c = left_as (names-next c.args.profile c.loop-k.k c.loop-k-test.true) c.loop-k.invariant

pub loop-k-init : goal.loop-k-init
loop-k-init c =
    let p = c.args.profile in
    left_as (names-all p) (left_start c.args.out.now c.args.at (all_names p) (omega (arith, c.requires, names-length p)))

pub write_name-to-requires : goal.write_name-to-requires
write_name-to-requires c =
    let l = c.loop-k in
    let p = c.args.profile in
    (c.loop-k-test.true, first_fits (name_at p l.k) (names_from p (l.k + 1)) (turn (goal.at.write_name-to-requires c).In-loop-k))

pub loop-k-preserved : goal.loop-k-preserved
loop-k-preserved c =
    let l = c.loop-k in
    let p = c.args.profile in
    left_next (name_at p l.k) (names_from p (l.k + 1)) (turn (goal.at.loop-k-preserved c).In-loop-k) c.write_name-to.ensures

pub shape_of-out : goal.shape_of-out
shape_of-out c = c.loop-k.invariant.same

pub returns : goal.returns
returns c = left_none (names_none c.args.profile c.loop-k.k c.loop-k-test.false) c.loop-k.invariant
