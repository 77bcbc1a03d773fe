-- A line that goes over the end of what is held: octets split at the first line feed, with more octets behind them.
use Prim.Native.Nat.{ℕ}
use mathlib.Core.Path.{◌≡◌, refl, sym, ap}
use mathlib.Core.Bool.{Bool, true, false, ◌||◌, cond, false≢true, or_assoc}
use mathlib.Core.List.{List, [], ◌∷◌, ◌++◌}
use Rattle.typed.specs.Scanning.{is_feed, before_feed, has_feed, behind_feed}

pub feed_append : (a b : List ℕ) → has_feed (a ++ b) ≡ (has_feed a || has_feed b)
unfolding has_feed
feed_append [] b = refl
feed_append (c ∷ a) b = rw (feed_append a b) (sym (or_assoc (is_feed c) (has_feed a) (has_feed b)))

-- no line feed in the first: the line goes on in the second
pub line_goes_on : (a b : List ℕ) → has_feed a ≡ false → (before_feed (a ++ b) ≡ a ++ before_feed b) × (behind_feed (a ++ b) ≡ behind_feed b)
unfolding has_feed before_feed behind_feed
line_goes_on [] b e = (refl, refl)
line_goes_on (c ∷ a) b e = at (is_feed c) e (line_goes_on a b)
  where
    at : (f : Bool) → (f || has_feed a) ≡ false → (has_feed a ≡ false → (before_feed (a ++ b) ≡ a ++ before_feed b) × (behind_feed (a ++ b) ≡ behind_feed b)) → (cond f [] (c ∷ before_feed (a ++ b)) ≡ c ∷ (a ++ before_feed b)) × (cond f (a ++ b) (behind_feed (a ++ b)) ≡ behind_feed b)
    at true h k = absurd (false≢true (sym h))
    at false h k = (ap (λ (s : List ℕ). c ∷ s) (k h).0, (k h).1)

-- a line feed in the first: the second is left for later lines
pub line_ends : (a b : List ℕ) → has_feed a ≡ true → (before_feed (a ++ b) ≡ before_feed a) × (behind_feed (a ++ b) ≡ behind_feed a ++ b)
unfolding has_feed before_feed behind_feed
line_ends [] b e = absurd (false≢true e)
line_ends (c ∷ a) b e = at (is_feed c) e (line_ends a b)
  where
    at : (f : Bool) → (f || has_feed a) ≡ true → (has_feed a ≡ true → (before_feed (a ++ b) ≡ before_feed a) × (behind_feed (a ++ b) ≡ behind_feed a ++ b)) → (cond f [] (c ∷ before_feed (a ++ b)) ≡ cond f [] (c ∷ before_feed a)) × (cond f (a ++ b) (behind_feed (a ++ b)) ≡ cond f a (behind_feed a) ++ b)
    at true h k = (refl, refl)
    at false h k = (ap (λ (s : List ℕ). c ∷ s) (k h).0, (k h).1)
