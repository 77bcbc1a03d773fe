-- Several regions of a room, each with a place and octets of its own. K names the regions: for a reply the kinds of record.
use Rattle.std.specs.Prelude.{ℕ, ◌+◌, ◌≤◌, ◌≡◌, List, [], ◌∷◌, length}
use Rattle.meaning.specs.Octets.{splice}

-- the octets of every region written at its place
unfoldable pub fill : {K : Type 0} → List K → (K → ℕ) → (K → List ℕ) → List ℕ → List ℕ
fill [] at w out = out
fill (k ∷ ks) at w out = fill ks at w (splice out (at k) (w k))

-- the regions lie one behind another, from lo to hi
unfoldable pub Apart : {K : Type 0} → ℕ → List K → (K → ℕ) → (K → List ℕ) → ℕ → Type 0
Apart lo [] at w hi = lo ≤ hi
Apart lo (k ∷ ks) at w hi = (lo ≤ at k) × Apart (at k + length (w k)) ks at w hi

-- they follow one another with no gap
unfoldable pub Adjoin : {K : Type 0} → ℕ → List K → (K → ℕ) → (K → List ℕ) → Type 0
Adjoin lo [] at w = Unit {0}
Adjoin lo (k ∷ ks) at w = (at k ≡ lo) × Adjoin (lo + length (w k)) ks at w

-- what one step of a pass leaves: every region's octets written at its place, every place behind them
pub record Filled {K : Type 0} (ks : List K) (at : K → ℕ) (w : K → List ℕ) (out : List ℕ) (at' : K → ℕ) (out' : List ℕ) : Type 0 where
  pub written : out' ≡ fill ks at w out
  pub places : (k : K) → at' k ≡ at k + length (w k)
