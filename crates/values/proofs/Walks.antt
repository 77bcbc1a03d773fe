-- A turn of the walk over a list's entries, as the library cuts them.
use Prim.Native.Nat.{ℕ, zero, suc, ◌+◌, ◌/◌, ◌<◌}
use native.Mathlib.Numerals.{add-one}
use mathlib.Core.Path.{◌≡◌, refl, ap}
use mathlib.Core.Bool.{Bool, ◌&&◌, and_assoc}
use mathlib.Core.List.{List, [], ◌∷◌}
use lib.ListN.{length, take, drop, get_or}
use lib.Seq.{drop-cons}
use Rattle.std.specs.Simd.{first_chunks}
use Rattle.meaning.specs.Block.{cut_in, entries_of, interval, entry_ok, each_ok, intervals}

chunks_are : (n : ℕ) (v : List ℕ) → first_chunks 7 n v ≡ cut_in n v
unfolding cut_in
chunks_are zero v = refl
chunks_are (suc n) v = ap (λ (es : List (List ℕ)). take 7 v ∷ es) (chunks_are n (drop 7 v))

pub entries_are : (v : List ℕ) → first_chunks 7 (length v / 7) v ≡ entries_of v
unfolding entries_of
entries_are v = chunks_are (length v / 7) v

module _ (es : List (List ℕ)) (i : ℕ) (h : i < length es) where
  pub each_turn : (ok : Bool) → (ok && entry_ok (get_or es i []) && each_ok (drop (i + 1) es)) ≡ (ok && each_ok (drop i es))
  unfolding each_ok
  each_turn ok = rw (add-one, drop-cons es i [] h) (and_assoc ok (entry_ok (get_or es i [])) (each_ok (drop (suc i) es)))

  pub intervals-turn : intervals (drop i es) ≡ interval (get_or es i []) + intervals (drop (i + 1) es)
  unfolding intervals
  intervals-turn = rw (add-one, drop-cons es i [] h)
