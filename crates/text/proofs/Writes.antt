-- The text that the functions write: a digit without a branch, a turn of the loop over octets, lengths, a store as a splice.
use Prim.Native.Nat.{ℕ, ◌+◌, ◌*◌, ◌/◌, ◌%◌, ◌≤◌, ◌<◌}
use native.Mathlib.Numerals.{add-one}
use native.Mathlib.Omega.{arith}
use mathlib.Core.Path.{◌≡◌, refl, sym}
use mathlib.Core.Bool.{Bool, true, false, cond, true≢false}
use mathlib.Core.List.{List, [], ◌∷◌, ◌++◌}
use lib.ListN.{length, get_or, drop, set, length-append, drop_of_length-le}
use lib.Seq.{drop-cons}
use lib.Dec.{ltb, eqb}
use lib.Bits.{bit_and, and_le_r}
use borrow.Author.Tests.{ltb-true, ltb-false, lt-ltb, le-ltb}
use Rattle.std.proofs.lemmas.Bool.{eqb-true}
use Rattle.meaning.specs.Octets.{splice}
use Rattle.octets.proofs.Splices.{splice-nil, two_stores, splice-splice}
use Rattle.text.specs.Lines.{digit, hex, decimal, shown_octets, octets_line, line, long_decimal, lent_line, field, full_line}

-- 39 is what lies between the characters after `9` and `a`; 255 times 1 has all of its bits, 255 times 0 none
pub digit_is : (d : ℕ) → d < 16 → d + 48 + bit_and ((d + 6) / 16 * 255) 39 ≡ digit d
unfolding digit
digit_is d h = at (ltb d 10) refl
  where
    at : (b : Bool) → ltb d 10 ≡ b → d + 48 + bit_and ((d + 6) / 16 * 255) 39 ≡ cond b (48 + d) (87 + d)
    at true e =
        let l = ltb-true d 10 e in
        let t : (d + 6) / 16 * 255 ≡ 0 = omega arith in
        rw t (omega arith)
    at false e =
        let l = ltb-false d 10 e in
        let t : (d + 6) / 16 * 255 ≡ 255 = omega arith in
        rw t (omega arith)

-- whatever is taken of a mask, the sum is an octet
pub masked : (d x m : ℕ) → d < 16 → m < 128 → d + 48 + bit_and x m < 256
masked d x m h k = omega (arith, and_le_r x m)

-- ---- octets as digits

pub hex-length : (s : List ℕ) → length (hex s) ≡ length s + length s
unfolding hex
hex-length [] = refl
hex-length (x ∷ s) = omega (arith, hex-length s)

-- a turn's two stores, and the rest after them
pub hex-turn : (out src : List ℕ) (to i a b : ℕ) → to + 2 ≤ length out → i < length src → a ≡ digit (get_or src i 0 / 16) → b ≡ digit (get_or src i 0 % 16)
    → splice (set (set out to a) (to + 1) b) (to + 2) (hex (drop (i + 1) src)) ≡ splice out to (hex (drop i src))
unfolding hex
hex-turn out src to i a b h k e f =
    let t = hex (drop (i + 1) src) in
    let d : hex (drop i src) ≡ a ∷ b ∷ t = rw (e, f, add-one, drop-cons src i 0) in
    rw (two_stores out to a b h, d) (splice-splice out (a ∷ b ∷ []) t to h)

pub hex_end : (out src : List ℕ) (to i : ℕ) → length src ≤ i → splice out to (hex (drop i src)) ≡ out
unfolding hex
hex_end out src to i h = rw (drop_of_length-le src h) (splice-nil out to)

-- ---- a number under 100

pub decimal_one : (n a : ℕ) → n < 10 → a ≡ digit n → decimal n ≡ a ∷ []
unfolding decimal
decimal_one n a h e = rw (lt-ltb n 10 h, e)

pub decimal_two : (n a b : ℕ) → 10 ≤ n → a ≡ digit (n / 10) → b ≡ digit (n % 10) → decimal n ≡ a ∷ b ∷ []
unfolding decimal
decimal_two n a b h e f = rw (le-ltb n 10 h, e, f)

-- ---- octets shown

pub shown_none : (s : List ℕ) → true ≡ eqb (length s) 0 → shown_octets s ≡ 45 ∷ []
unfolding shown_octets
shown_none [] e = refl
shown_none (x ∷ s) e = absurd (omega (arith, eqb-true (length (x ∷ s)) 0 (sym e)))

pub shown-hex : (s : List ℕ) → false ≡ eqb (length s) 0 → shown_octets s ≡ hex s
unfolding shown_octets
shown-hex [] e = absurd (true≢false (sym e))
shown-hex (x ∷ s) e = refl

pub decimal-short : (n : ℕ) → length (decimal n) ≤ 2
unfolding decimal
decimal-short n = at (ltb n 10)
  where
    at : (b : Bool) → length (cond b (digit n ∷ []) (digit (n / 10) ∷ digit (n % 10) ∷ [])) ≤ 2
    at true = omega arith
    at false = omega arith

pub shown-short : (s : List ℕ) → length (shown_octets s) ≤ length s + length s + 1
unfolding shown_octets
shown-short [] = omega arith
shown-short (x ∷ s) = omega (arith, hex-length (x ∷ s))

-- ---- lines

pub octets-short : (s : List ℕ) → length (octets_line s) ≤ length s + length s + 2
unfolding octets_line
octets-short s = simp length-append (omega (arith, shown-short s))

pub line-short : (n : ℕ) (s : List ℕ) → length (line n s) ≤ length s + length s + 5
unfolding line
line-short n s = simp length-append (omega (arith, decimal-short n, octets-short s))

-- ---- a number under 10,000

pub long_one : (n : ℕ) → n < 100 → long_decimal n ≡ decimal n
unfolding long_decimal
long_one n h = rw (lt-ltb n 100 h)

pub long_two : (n a b : ℕ) → 100 ≤ n → a ≡ digit (n / 10 % 10) → b ≡ digit (n % 10) → long_decimal n ≡ decimal (n / 100) ++ (a ∷ b ∷ [])
unfolding long_decimal
long_two n a b h e f = rw (le-ltb n 100 h, e, f)

pub hundreds-length : (n : ℕ) → 100 ≤ n → length (long_decimal n) ≡ length (decimal (n / 100)) + 2
hundreds-length n h = rw (long_two n _ _ h refl refl) (simp length-append)

pub long-short : (n : ℕ) → length (long_decimal n) ≤ 4
unfolding long_decimal
long-short n = at (ltb n 100)
  where
    at : (b : Bool) → length (cond b (decimal n) (decimal (n / 100) ++ (digit (n / 10 % 10) ∷ digit (n % 10) ∷ []))) ≤ 4
    at true = omega (arith, decimal-short n)
    at false = simp length-append (omega (arith, decimal-short (n / 100)))

pub lent-short : (n : ℕ) → length (lent_line n) ≤ 10
unfolding lent_line
lent-short n = simp length-append (omega (arith, long-short n))

-- ---- a line told in full

pub field-short : (n : ℕ) → length (field n) ≤ 5
unfolding field
field-short n = simp length-append (omega (arith, long-short n))

pub full_short : (n p : ℕ) (s : List ℕ) → length (full_line n p s) ≤ length s + length s + 12
unfolding full_line
full_short n p s = simp length-append (omega (arith, field-short n, field-short p, octets-short s))
