-- Lines of text: numbers in decimal, octets in lower-case hexadecimal or `-` for none, a newline at the end.
use Rattle.std.specs.Prelude.{ℕ, zero, suc, ◌+◌, ◌/◌, ◌%◌, cond, List, [], ◌∷◌, ◌++◌, ltb}

-- the character of a digit: `0` to `9`, then `a` to `f`
unfoldable pub digit : ℕ → ℕ
digit d = cond (ltb d 10) (48 + d) (87 + d)

-- two digits an octet, the high one first
unfoldable pub hex : List ℕ → List ℕ
hex [] = []
hex (x ∷ s) = digit (x / 16) ∷ digit (x % 16) ∷ hex s

-- a number under 100, without a leading zero
unfoldable pub decimal : ℕ → List ℕ
decimal n = cond (ltb n 10) (digit n ∷ []) (digit (n / 10) ∷ digit (n % 10) ∷ [])

unfoldable pub shown_octets : List ℕ → List ℕ
shown_octets [] = 45 ∷ []
shown_octets (x ∷ s) = hex (x ∷ s)

-- a line of octets alone
unfoldable pub octets_line : List ℕ → List ℕ
octets_line s = shown_octets s ++ (10 ∷ [])

-- a number under 100, a space, octets
unfoldable pub line : ℕ → List ℕ → List ℕ
line n s = decimal n ++ (32 ∷ octets_line s)

-- a number under 10,000, without a leading zero
unfoldable pub long_decimal : ℕ → List ℕ
long_decimal n = cond (ltb n 100) (decimal n) (decimal (n / 100) ++ (digit (n / 10 % 10) ∷ digit (n % 10) ∷ []))

-- `lent`, a space, a number
unfoldable pub lent_line : ℕ → List ℕ
lent_line n = (108 ∷ 101 ∷ 110 ∷ 116 ∷ 32 ∷ []) ++ (long_decimal n ++ (10 ∷ []))

-- a number under 10,000 and a space
unfoldable pub field : ℕ → List ℕ
field n = long_decimal n ++ (32 ∷ [])

-- a line told in full: a number, a position, octets
unfoldable pub full_line : ℕ → ℕ → List ℕ → List ℕ
full_line n p s = field n ++ (field p ++ octets_line s)

-- a number without a leading zero, with k digits at most before its last
unfoldable pub digits_in : ℕ → ℕ → List ℕ
digits_in zero n = digit n ∷ []
digits_in (suc k) n = cond (ltb n 10) (digit n ∷ []) (digits_in k (n / 10) ++ (digit (n % 10) ∷ []))

-- a number of 64 bits, which has 20 digits at most
unfoldable pub wide_decimal : ℕ → List ℕ
wide_decimal n = digits_in 19 n

-- it and the character behind it
unfoldable pub wide_field : ℕ → ℕ → List ℕ
wide_field n c = wide_decimal n ++ (c ∷ [])

-- an octet as two digits, and a space
unfoldable pub octet_field : ℕ → List ℕ
octet_field x = hex (x ∷ []) ++ (32 ∷ [])

-- the line of open gates: 0, the gate states, the entry's number, the nanoseconds
unfoldable pub open_line : ℕ → ℕ → ℕ → List ℕ
open_line s k d = field 0 ++ (octet_field s ++ (wide_field k 32 ++ wide_field d 10))
