-- Octets joined by `|`: 0 exactly where each of them is.
use Prim.Native.Nat.{ℕ, zero, suc}
use native.Mathlib.Omega.{arith}
use mathlib.Core.Path.{◌≡◌, ◌∙◌}
use mathlib.Core.Bool.{◌&&◌, and_assoc, and-true}
use mathlib.Core.List.{List, [], ◌∷◌}
use lib.Bits.{bit_or, or_zero_l, or_add_and, and_le_r}
use lib.Dec.{eqb}
use borrow.Author.Tests.{ne_eqb}
use Rattle.std.specs.List.{fold}
use Rattle.meaning.specs.Octets.{blank}

or_blank : (a x : ℕ) → eqb (bit_or a x) 0 ≡ (eqb a 0 && eqb x 0)
or_blank zero x = rw (or_zero_l x)
or_blank (suc a) x =
    rw (ne_eqb (bit_or (suc a) x) 0 (λ e. omega (arith, or_add_and (suc a) x, and_le_r (suc a) x, e)), ne_eqb (suc a) 0 (λ e. omega (arith, e)))

-- so all of them joined to a number
joined_from : (s : List ℕ) (a : ℕ) → eqb (fold bit_or a s) 0 ≡ (eqb a 0 && blank s)
unfolding blank
joined_from [] a = rw and-true
joined_from (x ∷ s) a = joined_from s (bit_or a x) ∙ rw (or_blank a x) (and_assoc (eqb a 0) (eqb x 0) (blank s))

pub joined_blank : (s : List ℕ) → eqb (fold bit_or 0 s) 0 ≡ blank s
joined_blank s = joined_from s 0
