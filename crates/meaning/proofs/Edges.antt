-- The edges of each value rule (RULES 4.3 to 4.21, 8.1 to 8.5), every octet in play: values that just keep it and values one step off in one octet,
-- one statement over one list.
use Prim.Native.Nat.{ℕ, zero, suc}
use mathlib.Core.Bool.{Bool, true, false}
use mathlib.Core.Path.{◌≡◌, refl}
use mathlib.Core.List.{List, [], ◌∷◌, ◌++◌, map}
use lib.ListN.{replicate}
use Rattle.meaning.specs.Octets.{zeros}
use Rattle.meaning.specs.Table.{row_at, place}
use Rattle.meaning.specs.Block.{permits}
use Rattle.meaning.proofs.All.{all}

-- a value for a name, and whether it is permitted
pub record Try : Type 0 where
  pub name : ℕ
  pub value : List ℕ
  pub wanted : Bool

abbrev pub fitting : ℕ → List ℕ → Try
fitting n v = record { name = n; value = v; wanted = true }

abbrev pub breaks : ℕ → List ℕ → Try
breaks n v = record { name = n; value = v; wanted = false }

-- several values for a name, all permitted or none
unfoldable fit : ℕ → List (List ℕ) → List Try
fit n vs = map (λ (v : List ℕ). fitting n v) vs

unfoldable break : ℕ → List (List ℕ) → List Try
break n vs = map (λ (v : List ℕ). breaks n v) vs

-- four octets
abbrev pub four : ℕ → ℕ → ℕ → ℕ → List ℕ
four a b c d = a ∷ b ∷ c ∷ d ∷ []

-- ---- names of one octet, and of any octets

-- the octets a to b permitted, the octets beside them not, nor none and nor two
abbrev octet_from : ℕ → ℕ → ℕ → ℕ → List Try
octet_from n a b off =
    fitting n (a ∷ []) ∷ fitting n (b ∷ []) ∷ breaks n (off ∷ []) ∷ breaks n [] ∷ breaks n (a ∷ a ∷ []) ∷ []

-- lengths a and b permitted, c and d beside them not
abbrev lengths : ℕ → ℕ → ℕ → ℕ → ℕ → List Try
lengths n a b c d =
    fitting n (zeros a) ∷ fitting n (zeros b) ∷ breaks n (zeros c) ∷ breaks n (zeros d) ∷ []

-- the same where any octets are permitted
abbrev any_octets : ℕ → ℕ → ℕ → ℕ → ℕ → List Try
any_octets n a b c d = fitting n (replicate b 0xFF) ∷ lengths n a b c d

unfoldable plain : List Try
plain =
    any_octets 0x0001 8 8 7 9
    ++ (octet_from 0x0003 0 1 2
    ++ (any_octets 0x0008 4 4 3 5
    ++ (breaks 0x0040 (0 ∷ []) ∷ octet_from 0x0040 1 4 5
    ++ (breaks 0x0041 (0 ∷ []) ∷ octet_from 0x0041 1 7 8
    ++ (any_octets 0x0042 1 255 0 256
    ++ (breaks 0x0060 (0 ∷ []) ∷ octet_from 0x0060 1 7 8
    ++ (any_octets 0x0061 1 255 0 256
    ++ (breaks 0x00A0 (0 ∷ []) ∷ octet_from 0x00A0 1 7 8
    ++ (any_octets 0x00A1 1 255 0 256
    ++ (breaks 0x00A2 (0 ∷ []) ∷ octet_from 0x00A2 1 7 8
    ++ (any_octets 0x00A3 1 255 0 256 ++ any_octets 0x00A4 2 2 1 3)))))))))))

-- ---- numbers of four octets: one that is wrong in each of them

unfoldable numbers : List Try
unfolding fit break
numbers =
    lengths 0x0005 4 4 3 5
    ++ (fit 0x0005 (four 0 0 0 64 ∷ four 0 0 0 1 ∷ [])
    ++ (break 0x0005 (four 0 0 0 65 ∷ four 0 0 1 0 ∷ four 0 1 0 0 ∷ four 1 0 0 0 ∷ four 0 0 1 64 ∷ four 1 0 0 1 ∷ [])
    ++ (fit 0x000B (four 0 0 0 64 ∷ [])
    ++ (break 0x000B (four 0 0 0 63 ∷ four 0 0 0 65 ∷ four 0 0 1 64 ∷ four 0 1 0 64 ∷ four 1 0 0 64 ∷ (0 ∷ 0 ∷ 64 ∷ []) ∷ (0 ∷ 0 ∷ 0 ∷ 0 ∷ 64 ∷ []) ∷ [])
    ++ (lengths 0x0004 10 10 9 11
    ++ (fit 0x0004 ((replicate 6 0xFF ++ four 0x3B 0x9A 0xC9 0xFF) ∷ (replicate 6 0xFF ++ four 0x3A 0xFF 0xFF 0xFF) ∷ [])
    ++ (break 0x0004 ((zeros 6 ++ four 0x3B 0x9A 0xCA 0x00) ∷ (zeros 6 ++ four 0x3B 0x9B 0 0) ∷ (zeros 6 ++ four 0x3C 0 0 0) ∷ [])
    ++ (fit 0x0007 ((zeros 4 ++ four 0 0 0 1) ∷ (zeros 4 ++ four 0 0 1 0) ∷ (zeros 4 ++ four 0 1 0 0) ∷ (zeros 4 ++ four 1 0 0 0) ∷ replicate 8 0xFF ∷ [])
    ++ break 0x0007 (zeros 8 ∷ (replicate 4 0xFF ++ zeros 4) ∷ (zeros 6 ++ (1 ∷ [])) ∷ (zeros 7 ++ (1 ∷ 0 ∷ [])) ∷ [])))))))))

-- ---- lists: the wrong entry the first, the second or the last

-- an entry of this operation, second octet and interval
abbrev entry_with : ℕ → ℕ → List ℕ → List ℕ
entry_with o t i = o ∷ t ∷ 0xFF ∷ i

-- so many entries, each these octets
unfoldable pub times : ℕ → List ℕ → List ℕ
times zero e = []
times (suc n) e = e ++ times n e

-- two right entries that differ in each octet that counts
unfoldable pub one : List ℕ
one = entry_with 0 5 (four 0 0 0 1)

unfoldable pub two : List ℕ
two = entry_with 2 5 (four 1 0 0 0)

-- entries that are wrong
unfoldable wrong : List (List ℕ)
wrong =
    entry_with 3 5 (four 0 0 0 1) ∷ entry_with 0 4 (four 0 0 0 1) ∷ entry_with 0 6 (four 0 0 0 1) ∷ entry_with 0 5 (four 0 0 0 0)
    ∷ entry_with 0xFF 5 (four 0 0 0 1)
    ∷ []

unfoldable list_tries : List Try
unfolding fit break times one two wrong
list_tries =
    fit 0x0006
    ([] ∷ one ∷ two ∷ (one ++ two) ∷ (two ++ one) ∷ (entry_with 1 5 (four 0 1 0 0) ++ entry_with 1 5 (four 0 0 1 0)) ∷ times 64 two ∷ (times 63 two ++ one) ∷ [])
    ++ (break 0x0006 (times 65 two ∷ (one ++ (0 ∷ [])) ∷ (one ++ replicate 6 5) ∷ zeros 1 ∷ [])
    ++ (break 0x0006 wrong
    ++ (break 0x0006 (map (λ (e : List ℕ). one ++ e) wrong)
    ++ (break 0x0006 (map (λ (e : List ℕ). e ++ one) wrong)
    ++ (break 0x0006 (map (λ (e : List ℕ). one ++ (two ++ (e ++ two))) wrong) ++ break 0x0006 (map (λ (e : List ℕ). times 63 two ++ e) wrong))))))

-- ---- blocks: two entries with intervals of 1 and 16,777,216 ns, and each condition off by one

abbrev base : List ℕ → List ℕ
base n = replicate 6 0xFF ++ n

unfoldable pub right : List ℕ
right = base (four 0x3B 0x9A 0xC9 0xFF)

-- 16,777,217 / 1,000,000,000: the cycle is just the sum
unfoldable pub exact : List ℕ
exact = four 1 0 0 1 ++ four 0x3B 0x9A 0xCA 0x00

unfoldable pub block_of : List ℕ → List ℕ → List ℕ → List ℕ → List ℕ
block_of b c l r = b ++ (c ++ (l ++ r))

unfoldable blocks : List Try
unfolding fit break times one two wrong right exact block_of
blocks =
    fit 0x8001
    (block_of right (four 0 0 0 2) (one ++ two) exact ∷ block_of right (four 0 0 0 2) (two ++ one) exact
    ∷ block_of right (four 0 0 0 1) one (four 0 0 0 1 ++ four 0x3B 0x9A 0xCA 0x00)
    ∷ block_of right (four 0 0 0 1) two exact
    ∷ block_of right (four 0 0 0 64) (times 64 one) (four 0 0 0 64 ++ four 0x3B 0x9A 0xCA 0x00)
    ∷ [])
    ++ (break 0x8001
    (block_of (base (four 0x3B 0x9A 0xCA 0x00)) (four 0 0 0 2) (one ++ two) exact
    ∷ block_of right (four 0 0 0 1) (one ++ two) exact
    ∷ block_of right (four 0 0 0 3) (one ++ two) exact
    ∷ block_of right (four 0 0 1 2) (one ++ two) exact
    ∷ block_of right (four 0 1 0 2) (one ++ two) exact
    ∷ block_of right (four 1 0 0 2) (one ++ two) exact
    ∷ block_of right (four 0 0 0 2) (one ++ replicate 6 5) exact
    ∷ block_of right (four 0 0 0 2) (one ++ (two ++ (0 ∷ []))) exact
    ∷ block_of right (four 0 0 0 2) (one ++ two) (four 1 0 0 0 ++ four 0x3B 0x9A 0xCA 0x00)
    ∷ block_of right (four 0 0 0 2) (one ++ two) (four 1 0 0 1 ++ four 0x3B 0x9A 0xCA 0x01)
    ∷ block_of right (four 0 0 0 2) (one ++ two) (four 1 0 0 1 ++ zeros 4)
    ∷ block_of right (four 0 0 0 64) (times 64 one) (four 0 0 0 63 ++ four 0x3B 0x9A 0xCA 0x00)
    ∷ block_of right (four 0 0 0 65) (times 65 one) (four 0 0 0 65 ++ four 0x3B 0x9A 0xCA 0x00)
    ∷ block_of right (zeros 4) [] exact
    ∷ block_of right (four 0 0 0 2) [] exact
    ∷ zeros 21
    ∷ []
    ∷ [])
    ++ (break 0x8001 (map (λ (e : List ℕ). block_of right (four 0 0 0 2) (one ++ e) exact) wrong)
    ++ break 0x8001 (map (λ (e : List ℕ). block_of right (four 0 0 0 2) (e ++ one) exact) wrong)))

-- ---- all of them

unfoldable pub tries : List Try
unfolding plain numbers list_tries blocks
tries = plain ++ (numbers ++ (list_tries ++ blocks))

pub edges : map (λ (t : Try). permits (row_at (place t.name)) t.value) tries ≡ map (λ (t : Try). t.wanted) tries
unfolding all tries
edges = refl
