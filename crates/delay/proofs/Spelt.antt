-- A delay's octets as the library writes them and as it reads them.
use Prim.Native.Nat.{ℕ, ◌+◌, ◌*◌, ◌≤◌, ◌<◌}
use native.Mathlib.Nat.{div-div-eq-div-mul}
use native.Mathlib.Numerals.{add-one}
use native.Mathlib.Omega.{arith}
use mathlib.Core.Path.{◌≡◌}
use mathlib.Core.List.{List}
use lib.ListN.{length, get_or, drop, drop_of_length-le}
use lib.Seq.{drop-cons}
use Rattle.std.specs.Int.{w64, to_le_bytes, from_le_bytes}
use Rattle.meaning.specs.Delay.{low_first, low_number}

pub low_written : (u : ℕ) → to_le_bytes w64 u ≡ low_first 8 u
unfolding low_first
low_written u = simp div-div-eq-div-mul

-- an octet and the number that the octets behind it spell
low_turn : (s : List ℕ) (i : ℕ) → i < length s → low_number (drop i s) ≡ get_or s i 0 + 256 * low_number (drop (i + 1) s)
unfolding low_number
low_turn s i h = rw (add-one, drop-cons s i 0 h)

low_end : (s : List ℕ) → length s ≡ 8 → low_number (drop 8 s) ≡ 0
unfolding low_number
low_end s l =
    let h : length s ≤ 8 = omega arith in
    rw (drop_of_length-le s h)

pub low_read : (s : List ℕ) → length s ≡ 8 → from_le_bytes w64 s ≡ low_number s
low_read s l =
    let turn = λ (i : ℕ) (h : i < 8). low_turn s i (omega arith) in
    omega (
      arith,
      turn 0 (omega arith),
      turn 1 (omega arith),
      turn 2 (omega arith),
      turn 3 (omega arith),
      turn 4 (omega arith),
      turn 5 (omega arith),
      turn 6 (omega arith),
      turn 7 (omega arith),
      low_end s l,
    )
