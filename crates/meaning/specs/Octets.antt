-- Octets: numbers of several octets, parts of a list of octets, and tests over lists.
use Rattle.std.specs.Prelude.{ℕ, zero, suc, ◌+◌, ◌*◌, ◌/◌, ◌%◌, Bool, true, false, ◌&&◌, ◌||◌, not, List, [], ◌∷◌, ◌++◌, length, get_or, take, drop, replicate, eqb}

-- the octet at a place, 0 past the end
abbrev pub octet : List ℕ → ℕ → ℕ
octet s i = get_or s i 0

-- the numbers that two and four octets at a place spell, the high octet first
unfoldable pub at16 : List ℕ → ℕ → ℕ
at16 s i = octet s i * 256 + octet s (i + 1)

unfoldable pub at32 : List ℕ → ℕ → ℕ
at32 s i = at16 s i * 65536 + at16 s (i + 2)

-- a number as two octets
unfoldable pub be16 : ℕ → List ℕ
be16 n = n / 256 % 256 ∷ n % 256 ∷ []

-- n octets from a place on
unfoldable pub part : List ℕ → ℕ → ℕ → List ℕ
part s i n = take n (drop i s)

-- the list with the octets v in the place of those from i on
unfoldable pub splice : List ℕ → ℕ → List ℕ → List ℕ
splice s i v = take i s ++ (v ++ drop (i + length v) s)

abbrev pub zeros : ℕ → List ℕ
zeros n = replicate n 0

-- what each element gives, joined
unfoldable pub flat : {A : Type 0} → (A → List ℕ) → List A → List ℕ
flat f [] = []
flat f (x ∷ xs) = f x ++ flat f xs

abbrev pub nonempty : {A : Type 0} → List A → Bool
nonempty [] = false
nonempty (x ∷ xs) = true

-- two lists hold the same octets
unfoldable pub same : List ℕ → List ℕ → Bool
same [] [] = true
same [] (y ∷ ys) = false
same (x ∷ xs) [] = false
same (x ∷ xs) (y ∷ ys) = eqb x y && same xs ys

-- every octet is 0
unfoldable pub blank : List ℕ → Bool
blank [] = true
blank (x ∷ xs) = eqb x 0 && blank xs

-- every test of a list passes
unfoldable pub every : List Bool → Bool
every [] = true
every (b ∷ bs) = b && every bs

-- a test passes at each number under n
unfoldable pub below : ℕ → (ℕ → Bool) → Bool
below zero f = true
below (suc n) f = below n f && f n

-- where the first test passes, so does the second
unfoldable pub implies : Bool → Bool → Bool
implies a b = not a || b
