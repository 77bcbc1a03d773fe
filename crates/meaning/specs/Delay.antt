-- Whole nanoseconds to delay units, of which 65,536 make a nanosecond, and a delay's 8 octets with the LOW octet first; then the way back.
use Rattle.std.specs.Prelude.{ℕ, zero, suc, ◌+◌, ◌-◌, ◌*◌, ◌/◌, ◌%◌, ◌^◌, cond, List, [], ◌∷◌, ltb}

-- exact below 2^47 nanoseconds (RULES 7.3), the largest delay from there on (RULES 7.4)
unfoldable pub units : ℕ → ℕ
units n = cond (ltb n (2 ^ 47)) (n * 65536) (2 ^ 63 - 1)

-- the k low octets of a number, the low octet first
unfoldable pub low_first : ℕ → ℕ → List ℕ
low_first zero n = []
low_first (suc k) n = n % 256 ∷ low_first k (n / 256)

-- what is stored for so many nanoseconds (RULES 7.5)
unfoldable pub delay : ℕ → List ℕ
delay n = low_first 8 (units n)

-- the number that octets spell, the LOW octet first
unfoldable pub low_number : List ℕ → ℕ
low_number [] = 0
low_number (x ∷ s) = x + 256 * low_number s

-- the whole nanoseconds in so many units
unfoldable pub nanoseconds_in : ℕ → ℕ
nanoseconds_in u = u / 65536

-- the units over, too few for a nanosecond
unfoldable pub units_over : ℕ → ℕ
units_over u = u % 65536
