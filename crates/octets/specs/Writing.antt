-- Octets written into a room one after another.
use Rattle.std.specs.Prelude.{ℕ, ◌+◌, ◌≡◌, List, length}
use Rattle.meaning.specs.Octets.{splice}

-- octets written at a place: the place after them, and the room
abbrev pub Wrote : List ℕ → ℕ → List ℕ → ℕ → List ℕ → Type 0
Wrote out at w end out' = (end ≡ at + length w) × (out' ≡ splice out at w)
