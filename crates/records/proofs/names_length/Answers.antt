-- `records::names_length` meets its contract.
use native.Mathlib.Omega.{arith}
use mathlib.Core.Path.{refl}
use borrow.Author.Tests.{ne_eqb}
use Rattle.meaning.specs.Profile.{release16, is_release16, names_length}
use Rattle.records.proofs.names_length.Goals as goal

pub returns-then-profile-eq-RELEASE_16 : goal.returns-then-profile-eq-RELEASE_16
unfolding names_length is_release16
returns-then-profile-eq-RELEASE_16 c = (rw c.if-profile-eq-RELEASE_16.true refl, omega arith)

pub returns-else-profile-eq-RELEASE_16 : goal.returns-else-profile-eq-RELEASE_16
unfolding names_length is_release16
returns-else-profile-eq-RELEASE_16 c = (rw (ne_eqb c.args.profile release16 c.if-profile-eq-RELEASE_16.false) refl, omega arith)
