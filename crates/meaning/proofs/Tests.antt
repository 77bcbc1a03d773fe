-- Laws of tests: a list of tests taken apart, a test at each place of a table, and the first check that fails.
use Prim.Native.Nat.{ℕ, zero, suc, ◌+◌, ◌<◌}
use native.Mathlib.Omega.{arith}
use native.Mathlib.Numerals.{add-one}
use native.Mathlib.Decide.{ℕ_discrete}
use mathlib.Core.Path.{◌≡◌, refl, sym, ap, ◌∙◌}
use mathlib.Core.Logic.{◌⊎◌, inl, inr}
use mathlib.Core.Bool.{Bool, true, false, ◌&&◌, ◌||◌, not, false≢true}
use mathlib.Core.List.{List, [], ◌∷◌}
use lib.ListN.{get_or}
use lib.Dec.{eqb}
use borrow.Author.Tests.{eqb-true, eq-eqb}
use Rattle.meaning.specs.Octets.{same, blank, every, below, implies, octet, zeros}
use Rattle.meaning.specs.Checks.{Checks, passed, check, first_failed}

-- ---- both, either, and where

pub and_left : (a b : Bool) → (a && b) ≡ true → a ≡ true
and_left true b e = refl
and_left false b e = absurd (false≢true e)

pub and_right : (a b : Bool) → (a && b) ≡ true → b ≡ true
and_right true b e = e
and_right false b e = absurd (false≢true e)

pub and_both : {a b : Bool} → a ≡ true → b ≡ true → (a && b) ≡ true
and_both e f = rw (e, f)

pub or_left : (a b : Bool) → a ≡ true → (a || b) ≡ true
or_left a b e = rw e

pub or_right : (a b : Bool) → b ≡ true → (a || b) ≡ true
or_right true b e = refl
or_right false b e = e

pub neither : (a b : Bool) → (a || b) ≡ false → (a ≡ false) × (b ≡ false)
neither true b e = absurd (false≢true (sym e))
neither false b e = (refl, e)

pub or_cases : (a b : Bool) → (a || b) ≡ true → (a ≡ true) ⊎ (b ≡ true)
or_cases true b e = inl refl
or_cases false b e = inr e

-- two tests, each of which passes where the other does
pub alike : (a b : Bool) → (a ≡ true → b ≡ true) → (b ≡ true → a ≡ true) → a ≡ b
alike true b f g = sym (f refl)
alike false true f g = g refl
alike false false f g = refl

-- a test that cannot pass
pub not-true : (b : Bool) → (b ≡ true → ⊥) → b ≡ false
not-true true f = absurd (f refl)
not-true false f = refl

-- what a test of the contrary says
pub denied : (b : Bool) → not b ≡ true → b ≡ false
denied true e = sym e
denied false e = refl

pub affirmed : (b : Bool) → not b ≡ false → b ≡ true
affirmed true e = refl
affirmed false e = sym e

pub implies_of : (a b : Bool) → (a ≡ true → b ≡ true) → implies a b ≡ true
unfolding implies
implies_of true b f = f refl
implies_of false b f = refl

pub implied : (a b : Bool) → implies a b ≡ true → a ≡ true → b ≡ true
unfolding implies
implied true b e h = e
implied false b e h = absurd (false≢true h)

-- ---- a list of tests

pub every_at : (bs : List Bool) (i : ℕ) → every bs ≡ true → get_or bs i true ≡ true
unfolding every
every_at [] i e = refl
every_at (b ∷ bs) zero e = and_left b (every bs) e
every_at (b ∷ bs) (suc i) e = every_at bs i (and_right b (every bs) e)

-- ---- a test at each place

pub below_at : (n : ℕ) (f : ℕ → Bool) → below n f ≡ true → (k : ℕ) → k < n → f k ≡ true
unfolding below
below_at zero f e k h = absurd (omega arith)
below_at (suc n) f e k h = at (ℕ_discrete k n) (λ l. below_at n f (and_left (below n f) (f n) e) k l)
  where
    at : Dec (k ≡ n) → (k < n → f k ≡ true) → f k ≡ true
    at (yes p) ih = ap f p ∙ and_right (below n f) (f n) e
    at (no p) ih = ih (omega arith)

pub below_more : (f : ℕ → Bool) (k : ℕ) → (below k f && f k) ≡ below (k + 1) f
unfolding below
below_more f k = rw add-one

pub below_all : (n : ℕ) (f : ℕ → Bool) → ((k : ℕ) → k < n → f k ≡ true) → below n f ≡ true
unfolding below
below_all zero f h = refl
below_all (suc n) f h = and_both (below_all n f (λ k l. h k (omega arith))) (h n (omega arith))

-- ---- same octets, zero octets

pub same_true : (a b : List ℕ) → same a b ≡ true → a ≡ b
unfolding same
same_true [] [] e = refl
same_true [] (y ∷ b) e = absurd (false≢true e)
same_true (x ∷ a) [] e = absurd (false≢true e)
same_true (x ∷ a) (y ∷ b) e =
    let h : x ≡ y = eqb-true x y (and_left _ _ e) in
    rw (h, same_true a b (and_right (eqb x y) _ e))

pub same_refl : (a : List ℕ) → same a a ≡ true
unfolding same
same_refl [] = refl
same_refl (x ∷ a) = and_both (eq-eqb x x refl) (same_refl a)

pub blank-zeros : (n : ℕ) → blank (zeros n) ≡ true
unfolding blank
blank-zeros zero = refl
blank-zeros (suc n) = blank-zeros n

pub blank-octet : (s : List ℕ) (i : ℕ) → blank s ≡ true → octet s i ≡ 0
unfolding blank
blank-octet [] i e = refl
blank-octet (x ∷ s) zero e = eqb-true x 0 (and_left _ _ e)
blank-octet (x ∷ s) (suc i) e = blank-octet s i (and_right (eqb x 0) _ e)

-- ---- the first check that fails

pub first-passed : (n : ℕ) (b : Bool) (cs : Checks) → first_failed (check (suc n) b cs) ≡ 0 → (b ≡ true) × (first_failed cs ≡ 0)
unfolding first_failed
first-passed n true cs e = (refl, e)
first-passed n false cs e = absurd (omega arith)

pub first_fails : (n : ℕ) (b : Bool) (cs : Checks) → b ≡ false → first_failed (check n b cs) ≡ n
unfolding first_failed
first_fails n b cs e = rw e

pub first-after : (n : ℕ) (b : Bool) (cs : Checks) (k : ℕ) → b ≡ true → first_failed cs ≡ k → first_failed (check n b cs) ≡ k
unfolding first_failed
first-after n b cs k e f = rw e f

-- each test passes
abbrev pub Passing : Checks → Type 0
Passing passed = Unit {0}
Passing (check n b cs) = (b ≡ true) × Passing cs

pub all_passing : (cs : Checks) → Passing cs → first_failed cs ≡ 0
unfolding first_failed
all_passing passed h = refl
all_passing (check n true cs) h = all_passing cs h.1
all_passing (check n false cs) h = absurd (false≢true h.0)
