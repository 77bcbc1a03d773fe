-- The delay conversion is exact below 2^47 nanoseconds (RULES 7.3), and gives the largest delay from there on (RULES 7.4). Units and octets
-- lead back: a stored delay is read as the units that were stored, and units part into whole nanoseconds and a rest.
use Prim.Native.Nat.{ℕ, zero, suc, ◌+◌, ◌-◌, ◌*◌, ◌/◌, ◌%◌, ◌^◌, ◌≤◌, ◌<◌}
use native.Mathlib.Omega.{arith}
use mathlib.Core.Path.{◌≡◌, refl, ap, ◌∙◌}
use mathlib.Core.Bool.{Bool, true, false}
use mathlib.Core.List.{List, [], ◌∷◌}
use lib.ListN.{length}
use lib.Dec.{ltb}
use borrow.Author.Tests.{ltb-true, ltb-false, lt-ltb, le-ltb}
use Rattle.meaning.specs.Delay.{units, low_first, delay, low_number, nanoseconds_in, units_over}
use Rattle.meaning.proofs.Lists.{Octets}

-- the first number that k octets cannot hold
unfoldable limit : ℕ → ℕ
limit zero = 1
limit (suc k) = 256 * limit k

eight_octets : limit 8 ≡ 2 ^ 64
unfolding limit
eight_octets = refl

-- ---- octets

low_back : (k n : ℕ) → n < limit k → low_number (low_first k n) ≡ n
unfolding low_number low_first limit
low_back zero n h = omega arith
low_back (suc k) n h = omega (arith, low_back k (n / 256) (omega arith))

low_held : (s : List ℕ) → Octets s → low_number s < limit (length s)
unfolding low_number limit
low_held [] o = omega arith
low_held (x ∷ s) o = omega (arith, low_held s o.1)

low_first-back : (s : List ℕ) → Octets s → low_first (length s) (low_number s) ≡ s
unfolding low_number low_first
low_first-back [] o = refl
low_first-back (x ∷ s) o =
    let p : (x + 256 * low_number s) % 256 ≡ x = omega arith in
    let q : (x + 256 * low_number s) / 256 ≡ low_number s = omega arith in
    rw (p, q) (ap (λ (t : List ℕ). x ∷ t) (low_first-back s o.1))

pub octets_then_number : (u : ℕ) → u < 2 ^ 64 → low_number (low_first 8 u) ≡ u
octets_then_number u h = low_back 8 u (rw eight_octets h)

module _ (s : List ℕ) (l : length s ≡ 8) (o : Octets s) where
  pub number_fits : low_number s < 2 ^ 64
  number_fits = rw (l, eight_octets) at (low_held s o)

  pub number_then_octets : low_first 8 (low_number s) ≡ s
  number_then_octets = rw l at (low_first-back s o)

-- ---- units

pub units_exact : (n : ℕ) → n < 2 ^ 47 → units n ≡ n * 65536
unfolding units
units_exact n h = rw (lt-ltb n (2 ^ 47) h)

pub units_largest : (n : ℕ) → 2 ^ 47 ≤ n → units n ≡ 2 ^ 63 - 1
unfolding units
units_largest n h = rw (le-ltb n (2 ^ 47) h)

pub units_small : (n : ℕ) → units n < 2 ^ 63
units_small n = go (ltb n (2 ^ 47)) refl
  where
    go : (b : Bool) → ltb n (2 ^ 47) ≡ b → units n < 2 ^ 63
    go true e = omega (arith, units_exact n (ltb-true n (2 ^ 47) e), ltb-true n (2 ^ 47) e)
    go false e = omega (arith, units_largest n (ltb-false n (2 ^ 47) e))

pub units_then_nanoseconds : (n : ℕ) → n < 2 ^ 47 → nanoseconds_in (units n) ≡ n
unfolding nanoseconds_in
units_then_nanoseconds n h = omega (arith, units_exact n h)

pub units-whole : (n : ℕ) → n < 2 ^ 47 → units_over (units n) ≡ 0
unfolding units_over
units-whole n h = omega (arith, units_exact n h)

pub nanoseconds_and_over : (u : ℕ) → nanoseconds_in u * 65536 + units_over u ≡ u
unfolding nanoseconds_in units_over
nanoseconds_and_over u = omega arith

pub over_small : (u : ℕ) → units_over u < 65536
unfolding units_over
over_small u = omega arith

-- ---- the octets of a delay

pub delay_exact : (n : ℕ) → n < 2 ^ 47 → low_number (delay n) ≡ n * 65536
unfolding delay
delay_exact n h = octets_then_number (units n) (omega (arith, units_small n)) ∙ units_exact n h

pub delay_largest : (n : ℕ) → 2 ^ 47 ≤ n → delay n ≡ 0xFF ∷ 0xFF ∷ 0xFF ∷ 0xFF ∷ 0xFF ∷ 0xFF ∷ 0xFF ∷ 0x7F ∷ []
unfolding delay low_first
delay_largest n h = rw (units_largest n h)
