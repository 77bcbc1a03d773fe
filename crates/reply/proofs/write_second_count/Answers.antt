-- `reply::write_second_count` meets its contract.
use native.Mathlib.Omega.{arith}
use mathlib.Core.Path.{◌≡◌, ap}
use mathlib.Core.List.{[], ◌∷◌}
use lib.ListN.{length}
use Rattle.records.proofs.Pieces.{wrote_none, wrote_this}
use Rattle.reply.specs.Sections.{second_count}
use Rattle.reply.proofs.write_second_count.Goals as goal
use Rattle.reply.proofs.write_second_count.Goals.{Else-not-needed}

is-needed : (c : Else-not-needed) → second_count c.args.needed c.args.count ≡ c.args.count ∷ []
unfolding second_count
is-needed c = rw (c.if-not-needed.false)

pub returns-then-not-needed : goal.returns-then-not-needed
unfolding second_count
returns-then-not-needed c =
    let a = c.args in
    wrote_none a.out.now a.at (rw (c.if-not-needed.true))

pub write_count-requires : goal.write_count-requires
write_count-requires c =
    (omega (arith, c.requires.1, ap length (is-needed (goal.at.write_count-requires c).Else-not-needed)), c.requires.0)

pub returns : goal.returns
returns c = wrote_this _ _ (is-needed (goal.at.returns c).Else-not-needed) c.write_count.ensures
