-- A number of 64 bits in decimal: its digits are those of the library, which are the fewest that hold it. Then the line of open gates.
use Prim.Native.Nat.{ℕ, zero, suc, ◌+◌, ◌-◌, ◌*◌, ◌/◌, ◌%◌, ◌^◌, ◌≤◌, ◌<◌}
use native.Mathlib.Nat.{pow-zero, pow-suc, one-le-pow, pow-le-pow_right}
use native.Mathlib.Omega.{arith}
use mathlib.Core.Path.{◌≡◌, refl, sym, ap, ◌∙◌}
use mathlib.Core.Bool.{Bool, true, false, cond}
use mathlib.Core.List.{List, [], ◌∷◌, ◌++◌, map, append_assoc}
use lib.ListN.{length, take, length-append}
use lib.Dec.{ltb, lit<}
use borrow.Author.Tests.{ltb-true, ltb-false, lt-ltb, le-ltb}
use Rattle.io.specs.Digits.{last_digits, IsDigitCount}
use Rattle.text.specs.Lines.{digit, decimal, long_decimal, octets_line, line, lent_line, field, digits_in, wide_decimal, wide_field, octet_field, open_line}
use Rattle.text.proofs.Writes.{hex-length, decimal-short, long-short, field-short}

-- ---- the library's digits

ten : (k : ℕ) → 10 ^ suc k ≡ 10 * 10 ^ k
ten k = omega (arith, pow-suc 10 k)

fewest : (k r n : ℕ) → IsDigitCount 10 1 n (suc r) → r ≤ k → digits_in k n ≡ last_digits 10 (suc r) n
unfolding digits_in digit
fewest zero zero n f h =
    let l : n < 10 = omega (arith, f.1, pow-suc 10 0, pow-zero 10) in
    let e : n % 10 ≡ n = omega arith in
    rw e
fewest (suc k) zero n f h =
    let l : n < 10 = omega (arith, f.1, pow-suc 10 0, pow-zero 10) in
    let e : n % 10 ≡ n = omega arith in
    rw (e, lt-ltb n 10 l)
fewest zero (suc r) n f h = absurd (omega arith)
fewest (suc k) (suc r) n f h =
    let e : suc (suc r) - 1 ≡ suc r = omega arith in
    let e' : suc r - 1 ≡ r = omega arith in
    let most : 10 ^ suc r ≤ n = rw e at (f.2 (omega arith)) in
    let l : 10 ≤ n = omega (arith, ten r, one-le-pow r 10 (omega arith)) in
    let g : IsDigitCount 10 1 (n / 10) (suc r) = (omega arith, omega (arith, f.1, ten (suc r)), λ i. rw e' (omega (arith, ten r))) in
    rw (le-ltb n 10 l, fewest k r (n / 10) g (omega arith))

-- 64 bits hold no number of 21 digits
twenty : 10 ^ 20 ≡ 100000000000000000000
twenty = refl

pub fewest_most : (n r : ℕ) → n < 2 ^ 64 → IsDigitCount 10 1 n r → r ≤ 20
fewest_most n r h f = at (ltb 20 r) refl
  where
    at : (b : Bool) → ltb 20 r ≡ b → r ≤ 20
    at true e =
        let l : 20 < r = ltb-true 20 r e in
        let more : 10 ^ 20 ≤ 10 ^ (r - 1) = pow-le-pow_right (lit< tt) {i = 20} {j = r - 1} (omega arith) in
        absurd (omega (arith, h, twenty, f.2 (omega arith)))
    at false e = ltb-false 20 r e

pub fewest_wide : (n r : ℕ) → n < 2 ^ 64 → IsDigitCount 10 1 n r → wide_decimal n ≡ last_digits 10 r n
unfolding wide_decimal
fewest_wide n zero h f = absurd (omega (arith, f.0))
fewest_wide n (suc r) h f = fewest 19 r n f (omega (arith, fewest_most n (suc r) h f))

-- what the library writes
pub told : (s : List ℕ) {n r : ℕ} → n < 2 ^ 64 → IsDigitCount 10 1 n r → take r s ≡ last_digits 10 r n → take r s ≡ wide_decimal n
told s {n} {r} h f e = e ∙ sym (fewest_wide n r h f)

digits_short : (k n : ℕ) → length (digits_in k n) ≤ suc k
unfolding digits_in
digits_short zero n = omega arith
digits_short (suc k) n = at (ltb n 10) (digits_short k (n / 10))
  where
    at : (b : Bool) → length (digits_in k (n / 10)) ≤ suc k → length (cond b (digit n ∷ []) (digits_in k (n / 10) ++ (digit (n % 10) ∷ []))) ≤ suc (suc k)
    at true h = omega arith
    at false h = simp length-append (omega arith)

pub wide_short : (n : ℕ) → length (wide_decimal n) ≤ 20
unfolding wide_decimal
wide_short n = digits_short 19 n

-- ---- numbers under 100 and under 10,000 are told as any number is

one_digit : (k n : ℕ) → n < 10 → digits_in k n ≡ digit n ∷ []
unfolding digits_in
one_digit zero n h = refl
one_digit (suc k) n h = rw (lt-ltb n 10 h)

two_digits : (k n : ℕ) → n < 100 → digits_in (suc k) n ≡ decimal n
unfolding digits_in decimal
two_digits k n h = rw (one_digit k (n / 10) (omega arith))

more_digits : (k n : ℕ) → 10 ≤ n → digits_in (suc k) n ≡ digits_in k (n / 10) ++ (digit (n % 10) ∷ [])
unfolding digits_in
more_digits k n h = rw (le-ltb n 10 h)

decimal_wide : (n : ℕ) → n < 100 → wide_decimal n ≡ decimal n
unfolding wide_decimal
decimal_wide n h = two_digits 18 n h

pub long_wide : (n : ℕ) → n < 10000 → wide_decimal n ≡ long_decimal n
unfolding wide_decimal long_decimal
long_wide n h = at (ltb n 100) refl
  where
    at : (b : Bool) → ltb n 100 ≡ b → digits_in 19 n ≡ cond b (decimal n) (decimal (n / 100) ++ (digit (n / 10 % 10) ∷ digit (n % 10) ∷ []))
    at true e = two_digits 18 n (ltb-true n 100 e)
    at false e =
        let l : 100 ≤ n = ltb-false n 100 e in
        let q : n / 10 / 10 ≡ n / 100 = omega arith in
        rw (more_digits 18 n (omega arith), more_digits 17 (n / 10) (omega arith), q, two_digits 16 (n / 100) (omega arith)) (simp append_assoc)

-- ---- a number and the character behind it

pub wide-field-length : (n c : ℕ) → length (wide_field n c) ≡ length (wide_decimal n) + 1
unfolding wide_field
wide-field-length n c = simp length-append

pub wide-field-short : (n c : ℕ) → length (wide_field n c) ≤ 21
wide-field-short n c = omega (arith, wide-field-length n c, wide_short n)

pub number_short : (n c : ℕ) → n < 100 → length (wide_field n c) ≤ 3
number_short n c h = omega (arith, wide-field-length n c, ap length (decimal_wide n h), decimal-short n)

pub number-long : (n c : ℕ) → n < 10000 → length (wide_field n c) ≤ 5
number-long n c h = omega (arith, wide-field-length n c, ap length (long_wide n h), long-short n)

pub field_wide : (n : ℕ) → n < 10000 → wide_field n 32 ≡ field n
unfolding wide_field field
field_wide n h = rw (long_wide n h)

pub line_wide : (n : ℕ) (s : List ℕ) → n < 100 → line n s ≡ wide_field n 32 ++ octets_line s
unfolding wide_field line
line_wide n s h = rw (decimal_wide n h) (simp append_assoc)

pub lent_wide : (n : ℕ) → n < 10000 → lent_line n ≡ (108 ∷ 101 ∷ 110 ∷ 116 ∷ 32 ∷ []) ++ wide_field n 10
unfolding wide_field lent_line
lent_wide n h = rw (long_wide n h)

-- ---- the line of open gates

pub octet-field-length : (x : ℕ) → length (octet_field x) ≡ 3
unfolding octet_field
octet-field-length x = simp (length-append, hex-length)

pub open_short : (s k d : ℕ) → length (open_line s k d) ≤ 50
unfolding open_line
open_short s k d = simp length-append (omega (arith, field-short 0, octet-field-length s, wide-field-short k 32, wide-field-short d 10))

-- ---- some numbers, computed

pub wide_examples : map wide_decimal (0 ∷ 9 ∷ 10 ∷ 64 ∷ 305419896 ∷ []) ++ (wide_decimal 18446744073709551615 ∷ [])
    ≡ (48 ∷ []) ∷ (57 ∷ []) ∷ (49 ∷ 48 ∷ []) ∷ (54 ∷ 52 ∷ []) ∷ (51 ∷ 48 ∷ 53 ∷ 52 ∷ 49 ∷ 57 ∷ 56 ∷ 57 ∷ 54 ∷ [])
    ∷ (49 ∷ 56 ∷ 52 ∷ 52 ∷ 54 ∷ 55 ∷ 52 ∷ 52 ∷ 48 ∷ 55 ∷ 51 ∷ 55 ∷ 48 ∷ 57 ∷ 53 ∷ 53 ∷ 49 ∷ 54 ∷ 49 ∷ 53 ∷ []) ∷ []
unfolding wide_decimal digits_in digit
wide_examples = refl
