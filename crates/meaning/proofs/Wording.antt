-- Octets of operations and records, spelt from names, lengths and values as the rules have them (RULES 10.4 to 10.8, 10.15 to 10.18, 12.6 to 12.11), for laws that compute.
use Prim.Native.Nat.{ℕ, ◌/◌, ◌%◌}
use mathlib.Core.List.{List, [], ◌∷◌, ◌++◌}
use lib.ListN.{length}
use Rattle.meaning.specs.Octets.{flat}

-- a number of two octets
unfoldable pub two_octets : ℕ → List ℕ
two_octets n = n / 256 ∷ n % 256 ∷ []

-- octets behind their length
unfoldable pub with_length : List ℕ → List ℕ
unfolding two_octets
with_length s = two_octets (length s) ++ s

unfoldable pub reading : ℕ → List ℕ
unfolding two_octets
reading n = 2 ∷ two_octets n

unfoldable pub setting : ℕ → List ℕ → List ℕ
unfolding two_octets with_length
setting n v = 3 ∷ two_octets n ++ with_length v

unfoldable pub subscribing : ℕ → List ℕ
unfolding two_octets
subscribing n = 4 ∷ two_octets n

unfoldable pub unsubscribing : ℕ → List ℕ
unfolding two_octets
unsubscribing n = 5 ∷ two_octets n

-- an operation with this code that is laid out as a set
unfoldable pub like_set : ℕ → ℕ → List ℕ → List ℕ
unfolding two_octets with_length
like_set c n v = c ∷ two_octets n ++ with_length v

-- records: a value behind a length of two octets, of one octet, a cause
unfoldable pub held_record : ℕ → List ℕ → List ℕ
unfolding two_octets with_length
held_record n v = two_octets n ++ with_length v

unfoldable pub short_record : ℕ → List ℕ → List ℕ
unfolding two_octets
short_record n v = two_octets n ++ (length v ∷ v)

unfoldable pub failed_record : ℕ → ℕ → List ℕ
unfolding two_octets
failed_record n c = two_octets n ++ (c ∷ [])

-- so many records, behind their count
unfoldable pub with_count : List (List ℕ) → List ℕ
with_count rs = length rs ∷ flat (λ (r : List ℕ). r) rs
