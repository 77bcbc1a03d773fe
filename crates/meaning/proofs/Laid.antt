-- Memory once more, laid out entry by entry from a list that names them all: fresh memory is one such, and sound ones are told from those that are one
-- step off in one clause of RULES 5.
use Prim.Native.Nat.{ℕ, suc, ◌-◌, ◌/◌, ◌%◌}
use mathlib.Core.Bool.{true, false}
use mathlib.Core.Path.{◌≡◌, refl}
use mathlib.Core.List.{List, [], ◌∷◌, ◌++◌, map}
use lib.ListN.{length, take, drop, replicate}
use Rattle.meaning.specs.Octets.{flat, zeros}
use Rattle.meaning.specs.Memory.{sound, fresh}
use Rattle.meaning.proofs.All.{all}
use Rattle.meaning.proofs.Edges.{four, one, two, right, exact, block_of}

-- ---- the form

-- an entry: its name, its flags (1 present, 2 subscribed, 4 pending, 8 in flight), its value, the length of its room
pub record LaidEntry : Type 0 where
  pub name : ℕ
  pub flags : ℕ
  pub value : List ℕ
  pub room : ℕ

abbrev pub holding : ℕ → ℕ → List ℕ → ℕ → LaidEntry
holding n f v r = record { name = n; flags = f; value = v; room = r }

-- six octets for each (RULES 3.4), the timer's two, and each room filled up with zeros (RULES 3.9, 5.14)
unfoldable pub laid : List LaidEntry → ℕ → ℕ → List ℕ
laid es w n =
    flat (λ (e : LaidEntry). e.name / 256 ∷ e.name % 256 ∷ e.flags ∷ 0 ∷ length e.value / 256 ∷ length e.value % 256 ∷ []) es
    ++ (w ∷ n ∷ flat (λ (e : LaidEntry). e.value ++ zeros (e.room - length e.value)) es)

-- the entry at place k another one
unfoldable pub with : ℕ → LaidEntry → List LaidEntry → List LaidEntry
with k e es = take k es ++ (e ∷ drop (suc k) es)

-- ---- fresh memory

unfoldable pub fresh-entries : List LaidEntry
fresh-entries =
    holding 0x0001 0 [] 8 ∷ holding 0x0003 1 (0 ∷ []) 1 ∷ holding 0x0004 0 [] 10 ∷ holding 0x0005 0 [] 4
    ∷ holding 0x0006 0 [] 448
    ∷ holding 0x0007 0 [] 8
    ∷ holding 0x0008 0 [] 4
    ∷ holding 0x000B 1 (four 0 0 0 64) 4
    ∷ holding 0x0040 0 [] 1
    ∷ holding 0x0041 0 [] 1
    ∷ holding 0x0042 0 [] 255
    ∷ holding 0x0060 0 [] 1
    ∷ holding 0x0061 0 [] 255
    ∷ holding 0x00A0 0 [] 1
    ∷ holding 0x00A1 0 [] 255
    ∷ holding 0x00A2 0 [] 1
    ∷ holding 0x00A3 0 [] 255
    ∷ holding 0x00A4 0 [] 2
    ∷ holding 0x8001 0 [] 470
    ∷ []

pub fresh_laid : fresh ≡ laid fresh-entries 0 0
unfolding all laid fresh-entries
fresh_laid = refl

-- ---- a full memory: each value there but two, a block that runs, marks of every sort

unfoldable pub running_block : List ℕ
unfolding one two right exact block_of
running_block = block_of right (four 0 0 0 2) (one ++ two) exact

unfoldable pub full : List LaidEntry
unfolding one two right exact running_block
full =
    holding 0x0001 3 (replicate 8 0xFF) 8 ∷ holding 0x0003 1 (1 ∷ []) 1 ∷ holding 0x0004 1 right 10 ∷ holding 0x0005 3 (four 0 0 0 2) 4
    ∷ holding 0x0006 1 (one ++ two) 448
    ∷ holding 0x0007 1 exact 8
    ∷ holding 0x0008 7 (four 1 2 3 4) 4
    ∷ holding 0x000B 3 (four 0 0 0 64) 4
    ∷ holding 0x0040 1 (4 ∷ []) 1
    ∷ holding 0x0041 1 (7 ∷ []) 1
    ∷ holding 0x0042 1 (replicate 255 9) 255
    ∷ holding 0x0060 1 (1 ∷ []) 1
    ∷ holding 0x0061 1 (5 ∷ []) 255
    ∷ holding 0x00A0 1 (1 ∷ []) 1
    ∷ holding 0x00A1 7 (replicate 3 0) 255
    ∷ holding 0x00A2 6 [] 1
    ∷ holding 0x00A3 2 [] 255
    ∷ holding 0x00A4 1 (0 ∷ 120 ∷ []) 2
    ∷ holding 0x8001 3 running_block 470
    ∷ []

-- memories that are sound: waiting with the most expiries, the four values changed under the block that runs, and in flight what is present, what is
-- absent, and what is pending beside
unfoldable pub sounds : List (List ℕ)
unfolding laid with full running_block one two right exact block_of
sounds =
    laid full 1 4
    ∷ laid (with 4 (holding 0x0006 1 [] 448) full) 0 0
    ∷ laid (with 18 (holding 0x8001 1 (block_of right (four 0 0 0 1) two exact) 470) full) 1 0
    ∷ laid (with 0 (holding 0x0001 11 (replicate 8 0xFF) 8) (with 6 (holding 0x0008 15 (four 1 2 3 4) 4) (with 16 (holding 0x00A3 10 [] 255) full))) 1 0
    ∷ []

pub laid_sound : map sound sounds ≡ replicate 4 true
unfolding all laid with full running_block one two right exact block_of sounds
laid_sound = refl

-- ---- one step off

-- an entry that is not right, at its place
unfoldable pub wrong_entries : List (List LaidEntry)
unfolding with full running_block one two right exact block_of
wrong_entries =
    -- the name, in each octet (RULES 5.2)
    with 0 (holding 0x0002 1 (replicate 8 0xFF) 8) full
    ∷ with 1 (holding 0x0103 1 (1 ∷ []) 1) full
    -- another flag, and pending without its right (RULES 5.4 to 5.6)
    ∷ with 1 (holding 0x0003 17 (1 ∷ []) 1) full
    ∷ with 1 (holding 0x0003 7 (1 ∷ []) 1) full
    ∷ with 6 (holding 0x0008 5 (four 1 2 3 4) 4) full
    -- in flight while idle (RULES 5.17)
    ∷ with 6 (holding 0x0008 11 (four 1 2 3 4) 4) full
    ∷ with 16 (holding 0x00A3 14 [] 255) full
    -- absent with a length, present with a wrong one, a value that breaks its rule (RULES 5.8, 5.9)
    ∷ with 0 (holding 0x0001 2 (replicate 8 0) 8) full
    ∷ with 0 (holding 0x0001 1 (replicate 7 0) 8) full
    ∷ with 1 (holding 0x0003 1 (2 ∷ []) 1) full
    ∷ with 3 (holding 0x0005 1 (four 1 0 0 0) 4) full
    -- values that must be there, and those under a block that runs (RULES 5.10, 5.12)
    ∷ with 1 (holding 0x0003 0 [] 1) full
    ∷ with 7 (holding 0x000B 0 [] 4) full
    ∷ with 2 (holding 0x0004 0 [] 10) full
    ∷ with 3 (holding 0x0005 0 [] 4) full
    ∷ with 4 (holding 0x0006 0 [] 448) full
    ∷ with 5 (holding 0x0007 0 [] 8) full
    -- a running block whose count or whose sum is off by one (RULES 5.11)
    ∷ with 18 (holding 0x8001 1 (block_of right (four 0 0 0 1) (one ++ two) exact) 470) full
    ∷ with 18 (holding 0x8001 1 (block_of right (four 0 0 0 2) (two ++ two) exact) 470) full
    ∷ []

-- in flight without its right, though the port waits (RULES 5.4 to 5.6)
unfoldable pub wrong_flights : List (List LaidEntry)
unfolding with full running_block one two right exact block_of
wrong_flights =
    with 1 (holding 0x0003 11 (1 ∷ []) 1) full
    ∷ with 7 (holding 0x000B 11 (four 0 0 0 64) 4) full
    ∷ with 6 (holding 0x0008 9 (four 1 2 3 4) 4) full
    ∷ with 6 (holding 0x0008 13 (four 1 2 3 4) 4) full
    ∷ with 6 (holding 0x0008 27 (four 1 2 3 4) 4) full
    ∷ []

-- octets that no entry spells: the length of all, octet 3 of a cell, a length past the room, the tail of a room, the timer (RULES 5.1, 5.3, 5.7, 5.13, 5.14)
unfoldable pub wrong_octets : List (List ℕ)
unfolding laid full running_block one two right exact block_of
wrong_octets =
    let m = laid full 0 0 in
    take 2099 m ∷ (m ++ (0 ∷ [])) ∷ (take 3 m ++ (1 ∷ drop 4 m))
    ∷ (take 10 m ++ (1 ∷ drop 11 m))
    ∷ (take 153 m ++ (1 ∷ drop 154 m))
    ∷ (take 586 m ++ (1 ∷ drop 587 m))
    ∷ (take 2099 m ++ (1 ∷ []))
    ∷ laid full 0 1
    ∷ laid full 1 5
    ∷ laid full 2 0
    ∷ []

pub laid_unsound : map sound (map (λ (es : List LaidEntry). laid es 0 0) wrong_entries ++ (map (λ (es : List LaidEntry). laid es 1 0) wrong_flights ++ wrong_octets))
    ≡ replicate 34 false
unfolding all laid with full running_block one two right exact block_of wrong_entries wrong_flights wrong_octets
laid_unsound = refl
