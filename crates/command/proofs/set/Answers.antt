-- `command::set` meets its contract.
use Rattle.command.proofs.Sets.{as_eighteen}
use Rattle.command.proofs.set.Goals as goal

pub returns-then-profile-eq-RELEASE_16 : goal.returns-then-profile-eq-RELEASE_16
returns-then-profile-eq-RELEASE_16 c = rw c.if-profile-eq-RELEASE_16.true c.set_16.ensures

pub returns : goal.returns
returns c =
    let a = c.args in
    as_eighteen a.profile a.m.now a.v.name _ c.if-profile-eq-RELEASE_16.false c.set_full.ensures
