-- A line in octets that go on: those before the first line feed, and those behind it.
use Rattle.std.specs.Prelude.{ℕ, ◌+◌, ◌≤◌, ◌≡◌, Bool, false, ◌||◌, cond, List, [], ◌∷◌, length, drop, eqb}
use Prim.Native.Char.{code}
use Rattle.typed.specs.declared.Form.TheVariants.{Octets}
use Rattle.typed.specs.declared.Line.{Line}
use Rattle.typed.specs.declared.Scanned.{Scanned}
use Rattle.typed.specs.Forms.{typed_all, typed_in, Keeps}

abbrev pub is_feed : ℕ → Bool
is_feed c = eqb c (code "\n")

-- all octets where there is no line feed
unfoldable pub before_feed : List ℕ → List ℕ
before_feed [] = []
before_feed (c ∷ s) = cond (is_feed c) [] (c ∷ before_feed s)

unfoldable pub has_feed : List ℕ → Bool
has_feed [] = false
has_feed (c ∷ s) = is_feed c || has_feed s

-- none where there is no line feed
unfoldable pub behind_feed : List ℕ → List ℕ
behind_feed [] = []
behind_feed (c ∷ s) = cond (is_feed c) s (behind_feed s)

-- a line that goes on: what is left to take at a place is what was to be taken at another before it
pub record Goes (room₀ : List ℕ) (l₀ : Line) (held : List ℕ) (from : ℕ) (room : List ℕ) (l : Line) (at : ℕ) : Type 0 where
  pub keeps : Keeps room l
  pub onward : from ≤ at
  pub inside : at ≤ length held
  pub typed_is : typed_all (typed_in room l) (before_feed (drop at held)) ≡ typed_all (typed_in room₀ l₀) (before_feed (drop from held))
  pub ended_is : has_feed (drop at held) ≡ has_feed (drop from held)
  pub rest_is : behind_feed (drop at held) ≡ behind_feed (drop from held)
  pub place : at + length (before_feed (drop at held)) ≡ from + length (before_feed (drop from held))

-- one that has whole octets
abbrev pub whole_octets : ℕ → Line
whole_octets n = record { form = Octets; comment = false; count = n }

-- what a scan leaves: the line's octets are taken, and the place is behind them and their line feed
pub record Scans (room : List ℕ) (l : Line) (held : List ℕ) (from : ℕ) (r : Scanned) (room' : List ℕ) : Type 0 where
  pub keeps : Keeps room' r.line
  pub typed_is : typed_in room' r.line ≡ typed_all (typed_in room l) (before_feed (drop from held))
  pub ended_is : r.ended ≡ has_feed (drop from held)
  pub rest_is : drop r.at held ≡ behind_feed (drop from held)
  pub place : r.at ≡ from + length (before_feed (drop from held)) + cond r.ended 1 0
  pub inside : r.at ≤ length held
