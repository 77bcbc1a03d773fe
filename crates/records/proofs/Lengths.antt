-- How many octets each kind of record has, and how many the names that a profile lists.
use Prim.Native.Nat.{ℕ, ◌+◌}
use native.Mathlib.Omega.{arith}
use mathlib.Core.Path.{◌≡◌, refl}
use lib.ListN.{length}
use Rattle.meaning.specs.Octets.{be16}
use Rattle.meaning.specs.Profile.{names_length}
use Rattle.meaning.specs.Reply.{Held, Failed, held_octets, short_octets, failed_octets, all_names}
use Rattle.meaning.proofs.Contents as contents

pub held-length : (h : Held) → length (held_octets h) ≡ 4 + length h.value
unfolding held_octets be16
held-length h = omega arith

pub short-length : (h : Held) → length (short_octets h) ≡ 3 + length h.value
unfolding short_octets be16
short-length h = omega arith

pub failed-length : (f : Failed) → length (failed_octets f) ≡ 3
unfolding failed_octets be16
failed-length f = refl

pub names-length : (p : ℕ) → length (all_names p) ≡ names_length p
names-length p = contents.names-length p
