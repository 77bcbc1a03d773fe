-- Instants of some blocks and memories, computed (RULES 22.3 to 22.9, 22.15): the edges of intervals and of cycles, a cycle whose remainder is dropped,
-- 64 entries in the longest cycle, both ends of the range; memories that are refused.
use Prim.Native.Nat.{ℕ}
use mathlib.Core.Path.{◌≡◌, refl}
use mathlib.Core.List.{List, [], ◌∷◌, ◌++◌, map}
use lib.ListN.{take, replicate}
use lib.IntN.{ℤ, pos, negsuc}
use Rattle.meaning.specs.Octets.{zeros}
use Rattle.meaning.specs.Memory.{fresh}
use Rattle.meaning.specs.Profile.{release18}
use Rattle.meaning.specs.Gates.{refused, not_started, opens, gates_of, gates, gates_number}
use Rattle.meaning.proofs.All.{all}
use Rattle.meaning.proofs.Edges.{four, times, one, two, right, exact, block_of}
use Rattle.meaning.proofs.Laid.{holding, laid, with, running_block, full}

-- the block of RULES 22.15: entries of 4 and 3 nanoseconds in a cycle of 10
unfoldable pub of_ten : List ℕ
of_ten = block_of (zeros 10) (four 0 0 0 2) ((0 ∷ 5 ∷ 0xFF ∷ four 0 0 0 4) ++ (0 ∷ 5 ∷ 1 ∷ four 0 0 0 3)) (four 0 0 0 1 ++ four 0x05 0xF5 0xE1 0x00)

pub gates-in-ten :
    map (λ (z : ℤ). gates_of of_ten z) (negsuc 0x7FFFFFFFFFFFFFFF ∷ negsuc 9 ∷ negsuc 0 ∷ pos 0 ∷ pos 3 ∷ pos 4 ∷ pos 6 ∷ pos 7 ∷ pos 9 ∷ pos 10 ∷ pos 19 ∷ pos 20 ∷ pos 0x7FFFFFFFFFFFFFFF ∷ [])
    ≡ not_started ∷ not_started ∷ not_started ∷ opens 0xFF 0 4 ∷ opens 0xFF 0 1 ∷ opens 1 1 6 ∷ opens 1 1 4 ∷ opens 1 1 3 ∷ opens 1 1 1 ∷ opens 0xFF 0 4 ∷ opens 1 1 1 ∷ opens 0xFF 0 4 ∷ opens 1 1 3 ∷ []
unfolding all of_ten block_of
gates-in-ten = refl

-- an interval that has every octet, and a cycle of 2/3 s, whose remainder is dropped: 666,666,666 nanoseconds
unfoldable pub of_thirds : List ℕ
of_thirds = block_of (replicate 10 9) (four 0 0 0 3) ((0 ∷ 5 ∷ 7 ∷ four 0x12 0x34 0x56 0x78) ++ ((2 ∷ 5 ∷ 7 ∷ four 0 1 2 3) ++ (1 ∷ 5 ∷ 0 ∷ four 0 0 0 1))) (four 0 0 0 2 ++ four 0 0 0 3)

pub gates-in-thirds :
    map (λ (z : ℤ). gates_of of_thirds z)
    (pos 0 ∷ pos 305419895 ∷ pos 305419896 ∷ pos 305485946 ∷ pos 305485947 ∷ pos 305485948 ∷ pos 666666665 ∷ pos 666666666 ∷ pos 972086562 ∷ pos 1333333332 ∷ [])
    ≡ opens 7 0 305419896 ∷ opens 7 0 1 ∷ opens 7 1 66051 ∷ opens 7 1 1 ∷ opens 0 2 361180719 ∷ opens 0 2 361180718 ∷ opens 0 2 1 ∷ opens 7 0 305419896 ∷ opens 7 1 66051 ∷ opens 7 0 305419896 ∷ []
unfolding all of_thirds block_of
gates-in-thirds = refl

-- 64 entries of 16,777,216 nanoseconds in the longest cycle
unfoldable pub of_longest : List ℕ
unfolding times two
of_longest = block_of (zeros 10) (four 0 0 0 64) (times 64 two) (replicate 4 0xFF ++ four 0 0 0 1)

pub gates-in-longest :
    map (λ (z : ℤ). gates_of of_longest z) (pos 1056964607 ∷ pos 1056964608 ∷ pos 4294967294999999999 ∷ pos 4294967295000000000 ∷ pos 9223372036854775807 ∷ [])
    ≡ opens 0xFF 62 1 ∷ opens 0xFF 63 4294967293943035392 ∷ opens 0xFF 63 1 ∷ opens 0xFF 0 16777216 ∷ opens 0xFF 63 3661529848145224193 ∷ []
unfolding all times two of_longest block_of
gates-in-longest = refl

-- memory: fresh; full; the same with no block that runs, unsound, one octet short
unfoldable pub asked : List (List ℕ)
unfolding laid with full running_block one two right exact block_of
asked = fresh ∷ laid full 1 4 ∷ laid (with 18 (holding 0x8001 2 [] 470) full) 0 0 ∷ laid full 0 1 ∷ take 2099 (laid full 1 4) ∷ [] ∷ []

pub gates-of-memory :
    map (λ (m : List ℕ). gates release18 m (pos 1)) asked ++ map (λ (m : List ℕ). gates release18 m (negsuc 0)) asked
    ≡ refused 15 ∷ opens 0xFF 1 16777216 ∷ refused 15 ∷ refused 1 ∷ refused 1 ∷ refused 1 ∷ refused 15 ∷ not_started ∷ refused 15 ∷ refused 1 ∷ refused 1 ∷ refused 1 ∷ []
unfolding all laid with full running_block one two right exact block_of asked
gates-of-memory = refl

pub gates_numbers : map gates_number (refused 1 ∷ refused 15 ∷ not_started ∷ opens 0xFF 1 16777216 ∷ []) ≡ 1 ∷ 15 ∷ 0 ∷ 0 ∷ []
unfolding gates_number
gates_numbers = refl
