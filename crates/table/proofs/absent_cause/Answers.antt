-- `table::absent_cause` meets its contract.
use borrow.Author.Tests.{eq-eqb, ne_eqb}
use Rattle.meaning.specs.Profile.{is_release16, cause_absent}
use Rattle.wire.specs.Causes.{octet_of}
use Rattle.table.proofs.absent_cause.Goals as goal

pub returns-then-profile-eq-RELEASE_16 : goal.returns-then-profile-eq-RELEASE_16
unfolding octet_of cause_absent is_release16
returns-then-profile-eq-RELEASE_16 c = rw (eq-eqb _ 3 c.if-profile-eq-RELEASE_16.true)

pub returns-else-profile-eq-RELEASE_16 : goal.returns-else-profile-eq-RELEASE_16
unfolding octet_of cause_absent is_release16
returns-else-profile-eq-RELEASE_16 c = rw (ne_eqb _ 3 c.if-profile-eq-RELEASE_16.false)
