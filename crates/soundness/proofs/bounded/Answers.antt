-- `soundness::bounded` meets its contract.
use mathlib.Core.Path.{sym}
use borrow.Author.Tests.{ne_eqb}
use Rattle.meaning.specs.Profile.{is_release16}
use Rattle.meaning.proofs.Bounded.{bounded_18}
use Rattle.soundness.proofs.Entries.{bounds_found}
use Rattle.soundness.proofs.bounded.Goals as goal

-- every profile but Release 16 asks nothing
pub returns-then-profile-ne-RELEASE_16 : goal.returns-then-profile-ne-RELEASE_16
unfolding is_release16
returns-then-profile-ne-RELEASE_16 c =
    let a = c.args in
    sym (bounded_18 a.profile a.m.now (ne_eqb a.profile 3 c.if-profile-ne-RELEASE_16.true))

pub returns : goal.returns
returns c =
    let a = c.args in
    bounds_found a.profile a.m.now c.if-profile-ne-RELEASE_16.false c.body-list.ensures c.body-block.ensures c.has-marked.ensures
