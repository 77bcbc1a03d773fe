-- The values' rules, the two sums over a block, and a block's form and fit.
use Rattle.std.specs.Prelude.{ℕ, zero, suc, ◌+◌, ◌-◌, ◌*◌, ◌/◌, ◌%◌, Bool, true, ◌&&◌, List, [], ◌∷◌, ◌++◌, length, take, drop, eqb, leb, ltb}
use Rattle.meaning.specs.Octets.{octet, at32, be16, part, every}
use Rattle.meaning.specs.Table.{Rule, free, within, time, entries, ratio, running, Row}

-- the number that octets spell, the high octet first
unfoldable pub as_number_from : ℕ → List ℕ → ℕ
as_number_from n [] = n
as_number_from n (x ∷ xs) = as_number_from (n * 256 + x) xs

unfoldable pub as_number : List ℕ → ℕ
as_number v = as_number_from 0 v

-- ---- AdminBaseTime: seconds and nanoseconds (RULES 4.5)

unfoldable pub time_ok : List ℕ → Bool
time_ok v = ltb (at32 v 6) 1000000000

-- ---- AdminControlList (RULES 4.7) and its entries of 7 octets (RULES 4.22 to 4.25)

-- the first n entries
unfoldable pub cut_in : ℕ → List ℕ → List (List ℕ)
cut_in zero v = []
cut_in (suc n) v = take 7 v ∷ cut_in n (drop 7 v)

unfoldable pub entries_of : List ℕ → List (List ℕ)
entries_of v = cut_in (length v / 7) v

unfoldable pub interval : List ℕ → ℕ
interval e = at32 e 3

unfoldable pub entry_ok : List ℕ → Bool
entry_ok e = every (leb (octet e 0) 2 ∷ eqb (octet e 1) 5 ∷ leb 1 (interval e) ∷ [])

unfoldable pub each_ok : List (List ℕ) → Bool
each_ok [] = true
each_ok (e ∷ es) = entry_ok e && each_ok es

unfoldable pub list_ok : List ℕ → Bool
list_ok v = eqb (length v % 7) 0 && each_ok (entries_of v)

-- the sum of the intervals
unfoldable pub intervals : List (List ℕ) → ℕ
intervals [] = 0
intervals (e ∷ es) = interval e + intervals es

-- ---- AdminCycleTime: numerator and denominator (RULES 4.8)

unfoldable pub ratio_ok : List ℕ → Bool
ratio_ok v = leb 1 (at32 v 4)

-- the cycle in whole nanoseconds (RULES 8.5)
unfoldable pub cycle : List ℕ → ℕ
cycle v = at32 v 0 * 1000000000 / at32 v 4

-- ---- the two sums, kept modulo 65,536 at each octet (RULES 8.6 to 8.8)

pub record Sums : Type 0 where
  pub first : ℕ
  pub second : ℕ

unfoldable pub sums_from : ℕ → ℕ → List ℕ → Sums
sums_from a b [] = record { first = a; second = b }
sums_from a b (x ∷ xs) =
    let a' = (a + x) % 65536 in
    sums_from a' ((b + a') % 65536) xs

unfoldable pub sums_of : List ℕ → Sums
sums_of s = sums_from 0 0 s

-- the sums as the value of a commit (RULES 8.9)
unfoldable pub sums : List ℕ → List ℕ
sums s = be16 (sums_of s).first ++ be16 (sums_of s).second

-- ---- a block: four values of 10, 4, 7 n and 8 octets (RULES 8.1)

unfoldable pub joined_block : List ℕ → List ℕ → List ℕ → List ℕ → List ℕ
joined_block base count list ratio' = base ++ (count ++ (list ++ ratio'))

unfoldable pub base_of : List ℕ → List ℕ
base_of b = part b 0 10

unfoldable pub count_of : List ℕ → List ℕ
count_of b = part b 10 4

unfoldable pub list_of : List ℕ → List ℕ
list_of b = part b 14 (length b - 22)

unfoldable pub ratio_of : List ℕ → List ℕ
ratio_of b = part b (length b - 8) 8

-- form and fit (RULES 8.2 to 8.5) of a block that is cut by its length
unfoldable pub form_and_fit : List ℕ → Bool
form_and_fit b =
    let n = length (list_of b) / 7 in
    every
    (leb 22 (length b)
    ∷ time_ok (base_of b)
    ∷ leb (as_number (count_of b)) 64
    ∷ list_ok (list_of b)
    ∷ ratio_ok (ratio_of b)
    ∷ eqb (as_number (count_of b)) n
    ∷ leb 1 n
    ∷ leb (intervals (entries_of (list_of b))) (cycle (ratio_of b))
    ∷ [])

-- ---- a value that a row permits: its length, and its rule (RULES 4.1)

unfoldable pub keeps : Rule → List ℕ → Bool
keeps free v = true
keeps (within a b) v = leb a (as_number v) && leb (as_number v) b
keeps time v = time_ok v
keeps entries v = list_ok v
keeps ratio v = ratio_ok v
keeps running v = form_and_fit v

unfoldable pub permits : Row → List ℕ → Bool
permits r v = every (leb r.least (length v) ∷ leb (length v) r.most ∷ keeps r.rule v ∷ [])
