-- What a change of an entry leaves in each cell and each room. That rooms lie apart is a test that is computed over the table.
use Prim.Native.Nat.{ℕ, suc, ◌+◌, ◌≤◌, ◌<◌}
use native.Mathlib.Omega.{arith}
use native.Mathlib.Decide.{dec_le}
use mathlib.Core.Path.{◌≡◌, refl, sym, ap, ◌∙◌}
use mathlib.Core.Logic.{◌≢◌, ◌⊎◌, inl, inr}
use mathlib.Core.Bool.{Bool, true, ◌&&◌, ◌||◌}
use mathlib.Core.List.{List, [], ◌∷◌}
use lib.ListN.{length, length-append, length-replicate}
use lib.Dec.{eqb, leb, ltb}
use borrow.Author.Tests.{leb-true, ltb-true, eqb-true}
use Rattle.meaning.specs.Octets.{octet, part, splice, be16, below}
use Rattle.meaning.specs.Table.{row_at, rows, rooms, room_at, entry_count, memory_length, bodies_at, timer_at, place, place_in, gate_enabled, admin_base_time, admin_control_list_length, admin_control_list, admin_cycle_time, supported_list_max, commit}
use Rattle.meaning.specs.Memory.{cell_at, flags_at, cell, room, timer, cell_of, room_of, put_cell, put_room, put, set_timer}
use Rattle.meaning.specs.Profile.{lists, listed}
use Rattle.meaning.proofs.Lists.{part-octet, octet-part, splice-length, splice-same, splice_before, splice-after}
use Rattle.meaning.proofs.Tests.{and_left, and_right, or_cases, below_at}

-- ---- the table's rules

-- the rooms stand without gaps from 116 to the memory's end
pub rooms-fill : room_at entry_count ≡ memory_length
unfolding room_at rooms rows
rooms-fill = refl

-- the places that rules name are those of their names
pub places-named : (place 0x0003 ≡ gate_enabled) × (place 0x0004 ≡ admin_base_time) × (place 0x0005 ≡ admin_control_list_length) × (place 0x0006 ≡ admin_control_list) × (place 0x0007 ≡ admin_cycle_time) × (place 0x000B ≡ supported_list_max) × (place 0x8001 ≡ commit)
unfolding place place_in rows
places-named = (refl, refl, refl, refl, refl, refl, refl)

abbrev room_right : ℕ → Bool
room_right k = leb bodies_at (room_at k) && leb (room_at k + (row_at k).most) memory_length

abbrev apart : ℕ → ℕ → Bool
apart j k =
    eqb j k || (leb (room_at j + (row_at j).most) (room_at k) || leb (room_at k + (row_at k).most) (room_at j))

abbrev small : ℕ → Bool
small k = ltb (row_at k).name 65536 && ltb (row_at k).most 65536

all_right : below entry_count room_right ≡ true
unfolding below row_at room_at rooms rows
all_right = refl

all_apart : below entry_count (λ j. below entry_count (apart j)) ≡ true
unfolding below row_at room_at rooms rows
all_apart = refl

all_small : below entry_count small ≡ true
unfolding below row_at rows
all_small = refl

module _ (k : ℕ) (h : k < entry_count) where
  pub room-start : bodies_at ≤ room_at k
  room-start = leb-true _ _ (and_left _ _ (below_at entry_count room_right all_right k h))

  pub room_end : room_at k + (row_at k).most ≤ memory_length
  room_end = leb-true _ _ (and_right (leb bodies_at (room_at k)) _ (below_at entry_count room_right all_right k h))

  pub name-small : (row_at k).name < 65536
  name-small = ltb-true _ _ (and_left _ _ (below_at entry_count small all_small k h))

  pub most-small : (row_at k).most < 65536
  most-small = ltb-true _ _ (and_right (ltb (row_at k).name 65536) _ (below_at entry_count small all_small k h))

pub listed-place : (p n : ℕ) → listed p n ≡ true → place n < entry_count
unfolding listed lists
listed-place p n e = ltb-true _ _ (and_left _ _ e)

abbrev Apart : ℕ → ℕ → Type 0
Apart j k = (room_at j + (row_at j).most ≤ room_at k) ⊎ (room_at k + (row_at k).most ≤ room_at j)

pub rooms_apart : (j k : ℕ) → j < entry_count → k < entry_count → j ≢ k → Apart j k
rooms_apart j k hj hk ne =
    go (or_cases _ _ (below_at entry_count (apart j) (below_at entry_count (λ i. below entry_count (apart i)) all_apart j hj) k hk))
  where
    either : (leb (room_at j + (row_at j).most) (room_at k) ≡ true) ⊎ (leb (room_at k + (row_at k).most) (room_at j) ≡ true) → Apart j k
    either (inl e) = inl (leb-true _ _ e)
    either (inr e) = inr (leb-true _ _ e)

    go : (eqb j k ≡ true) ⊎ ((leb (room_at j + (row_at j).most) (room_at k) || leb (room_at k + (row_at k).most) (room_at j)) ≡ true) → Apart j k
    go (inl e) = absurd (ne (eqb-true j k e))
    go (inr e) = either (or_cases _ _ e)

-- ---- lengths

pub length-cell_of : (k f n : ℕ) → length (cell_of k f n) ≡ 6
unfolding cell_of be16
length-cell_of k f n = refl

pub length-room_of : (k : ℕ) (v : List ℕ) → length v ≤ (row_at k).most → length (room_of k v) ≡ (row_at k).most
unfolding room_of
length-room_of k v h = simp (length-append, length-replicate) (omega arith)

-- ---- a cell is put

module _ (m : List ℕ) (k f n : ℕ) (hm : length m ≡ memory_length) (hk : k < entry_count) where
  fits-cell : cell_at k + length (cell_of k f n) ≤ length m
  fits-cell = simp (length-cell_of, hm) (omega arith)

  pub put_cell-length : length (put_cell m k f n) ≡ memory_length
  unfolding put_cell
  put_cell-length = splice-length m (cell_at k) (cell_of k f n) fits-cell ∙ hm

  pub cell-put_cell-same : cell (put_cell m k f n) k ≡ cell_of k f n
  unfolding cell put_cell cell_of be16
  cell-put_cell-same = splice-same m (cell_at k) (cell_of k f n) fits-cell

  pub cell-put_cell_other : (j : ℕ) → j ≢ k → cell (put_cell m k f n) j ≡ cell m j
  unfolding cell put_cell
  cell-put_cell_other j ne = go (dec_le (suc j) k)
    where
      go : Dec (suc j ≤ k) → part (splice m (cell_at k) (cell_of k f n)) (cell_at j) 6 ≡ part m (cell_at j) 6
      go (yes h) = splice_before m (cell_at k) (cell_of k f n) fits-cell (cell_at j) 6 (omega arith)
      go (no h) = splice-after m (cell_at k) (cell_of k f n) fits-cell (cell_at j) 6 (simp length-cell_of (omega arith))

  pub room-put_cell : (j : ℕ) → j < entry_count → room (put_cell m k f n) j ≡ room m j
  unfolding room put_cell
  room-put_cell j hj =
      splice-after m (cell_at k) (cell_of k f n) fits-cell (room_at j) (row_at j).most
      (simp length-cell_of (omega (arith, room-start j hj)))

  pub timer-put_cell : timer (put_cell m k f n) ≡ timer m
  unfolding timer put_cell
  timer-put_cell = splice-after m (cell_at k) (cell_of k f n) fits-cell timer_at 2 (simp length-cell_of (omega arith))

-- ---- a room is put

module _ (m : List ℕ) (k : ℕ) (v : List ℕ) (hm : length m ≡ memory_length) (hk : k < entry_count) (hv : length v ≤ (row_at k).most) where
  fits-room : room_at k + length (room_of k v) ≤ length m
  fits-room = rw (length-room_of k v hv, hm) (room_end k hk)

  put_room-length : length (put_room m k v) ≡ memory_length
  unfolding put_room
  put_room-length = splice-length m (room_at k) (room_of k v) fits-room ∙ hm

  room-put_room-same : room (put_room m k v) k ≡ room_of k v
  unfolding room put_room
  room-put_room-same =
      ap (part (splice m (room_at k) (room_of k v)) (room_at k)) (sym (length-room_of k v hv))
      ∙ splice-same m (room_at k) (room_of k v) fits-room

  room-put_room_other : (j : ℕ) → j < entry_count → j ≢ k → room (put_room m k v) j ≡ room m j
  unfolding room put_room
  room-put_room_other j hj ne = go (rooms_apart j k hj hk ne)
    where
      go : Apart j k → part (splice m (room_at k) (room_of k v)) (room_at j) (row_at j).most ≡ part m (room_at j) (row_at j).most
      go (inl h) = splice_before m (room_at k) (room_of k v) fits-room (room_at j) (row_at j).most h
      go (inr h) = splice-after m (room_at k) (room_of k v) fits-room (room_at j) (row_at j).most (rw (length-room_of k v hv) h)

  -- cells and timer stand before the rooms
  part-put_room : (i n : ℕ) → i + n ≤ bodies_at → part (put_room m k v) i n ≡ part m i n
  unfolding put_room
  part-put_room i n h = splice_before m (room_at k) (room_of k v) fits-room i n (omega (arith, room-start k hk))

  cell-put_room : (j : ℕ) → j < entry_count → cell (put_room m k v) j ≡ cell m j
  unfolding cell
  cell-put_room j hj = part-put_room (cell_at j) 6 (omega arith)

  timer-put_room : timer (put_room m k v) ≡ timer m
  unfolding timer
  timer-put_room = part-put_room timer_at 2 (omega arith)

-- ---- an entry is put: its cell, then its room

module _ (m : List ℕ) (k f : ℕ) (v : List ℕ) (hm : length m ≡ memory_length) (hk : k < entry_count) (hv : length v ≤ (row_at k).most) where
  half : length (put_cell m k f (length v)) ≡ memory_length
  half = put_cell-length m k f (length v) hm hk

  pub put-length : length (put m k f v) ≡ memory_length
  unfolding put
  put-length = put_room-length (put_cell m k f (length v)) k v half hk hv

  pub cell-put-same : cell (put m k f v) k ≡ cell_of k f (length v)
  unfolding put
  cell-put-same = cell-put_room (put_cell m k f (length v)) k v half hk hv k hk ∙ cell-put_cell-same m k f (length v) hm hk

  pub cell-put_other : (j : ℕ) → j < entry_count → j ≢ k → cell (put m k f v) j ≡ cell m j
  unfolding put
  cell-put_other j hj ne =
      cell-put_room (put_cell m k f (length v)) k v half hk hv j hj ∙ cell-put_cell_other m k f (length v) hm hk j ne

  pub room-put-same : room (put m k f v) k ≡ room_of k v
  unfolding put
  room-put-same = room-put_room-same (put_cell m k f (length v)) k v half hk hv

  pub room-put_other : (j : ℕ) → j < entry_count → j ≢ k → room (put m k f v) j ≡ room m j
  unfolding put
  room-put_other j hj ne =
      room-put_room_other (put_cell m k f (length v)) k v half hk hv j hj ne ∙ room-put_cell m k f (length v) hm hk j hj

  pub timer-put : timer (put m k f v) ≡ timer m
  unfolding put
  timer-put = timer-put_room (put_cell m k f (length v)) k v half hk hv ∙ timer-put_cell m k f (length v) hm hk

-- ---- the flags of a cell are put

module _ (m : List ℕ) (k f : ℕ) (hm : length m ≡ memory_length) (hk : k < entry_count) where
  abbrev flagged : List ℕ
  flagged = splice m (flags_at k) (f ∷ [])

  fits-flags : flags_at k + 1 ≤ length m
  fits-flags = rw hm (omega arith)

  pub flagged_length : length flagged ≡ memory_length
  flagged_length = splice-length m (flags_at k) (f ∷ []) fits-flags ∙ hm

  -- no part that lies apart from them changes
  part_flagged : (i l : ℕ) → (i + l ≤ flags_at k) ⊎ (flags_at k + 1 ≤ i) → part flagged i l ≡ part m i l
  part_flagged i l (inl h) = splice_before m (flags_at k) (f ∷ []) fits-flags i l h
  part_flagged i l (inr h) = splice-after m (flags_at k) (f ∷ []) fits-flags i l h

  pub octet_flagged : (i : ℕ) → i ≢ flags_at k → octet flagged i ≡ octet m i
  octet_flagged i ne =
      sym (octet-part flagged i) ∙ ap (λ (s : List ℕ). octet s 0) (part_flagged i 1 (apart_from (dec_le (flags_at k + 1) i))) ∙ octet-part m i
    where
      apart_from : Dec (flags_at k + 1 ≤ i) → (i + 1 ≤ flags_at k) ⊎ (flags_at k + 1 ≤ i)
      apart_from (yes h) = inr h
      apart_from (no h) = inl (omega arith)

  pub flags_flagged : octet (cell flagged k) 2 ≡ f
  unfolding cell
  flags_flagged =
      part-octet flagged (cell_at k) 6 2 (omega arith)
      ∙ sym (octet-part flagged (flags_at k))
      ∙ ap (λ (s : List ℕ). octet s 0) (splice-same m (flags_at k) (f ∷ []) fits-flags)

  pub cell-octet_flagged : (j : ℕ) → j < 6 → j ≢ 2 → octet (cell flagged k) j ≡ octet (cell m k) j
  unfolding cell
  cell-octet_flagged j hj ne =
      part-octet flagged (cell_at k) 6 j hj ∙ octet_flagged (cell_at k + j) (λ e. ne (omega arith)) ∙ sym (part-octet m (cell_at k) 6 j hj)

  pub cell_flagged_other : (j : ℕ) → j ≢ k → cell flagged j ≡ cell m j
  unfolding cell
  cell_flagged_other j ne = part_flagged (cell_at j) 6 (go (dec_le (suc j) k))
    where
      go : Dec (suc j ≤ k) → (cell_at j + 6 ≤ flags_at k) ⊎ (flags_at k + 1 ≤ cell_at j)
      go (yes h) = inl (omega arith)
      go (no h) = inr (omega arith)

  pub room_flagged : (j : ℕ) → j < entry_count → room flagged j ≡ room m j
  unfolding room
  room_flagged j hj = part_flagged (room_at j) (row_at j).most (inr (omega (arith, room-start j hj)))

  pub timer_flagged : timer flagged ≡ timer m
  unfolding timer
  timer_flagged = part_flagged timer_at 2 (inr (omega arith))

-- ---- the timer is put

module _ (m : List ℕ) (w n : ℕ) (hm : length m ≡ memory_length) where
  fits-timer : timer_at + 2 ≤ length m
  fits-timer = rw hm (omega arith)

  pub set_timer-length : length (set_timer m w n) ≡ memory_length
  unfolding set_timer
  set_timer-length = splice-length m timer_at (w ∷ n ∷ []) fits-timer ∙ hm

  pub timer-set_timer : timer (set_timer m w n) ≡ w ∷ n ∷ []
  unfolding timer set_timer
  timer-set_timer = splice-same m timer_at (w ∷ n ∷ []) fits-timer

  pub cell-set_timer : (j : ℕ) → j < entry_count → cell (set_timer m w n) j ≡ cell m j
  unfolding cell set_timer
  cell-set_timer j hj = splice_before m timer_at (w ∷ n ∷ []) fits-timer (cell_at j) 6 (omega arith)

  pub room-set_timer : (j : ℕ) → j < entry_count → room (set_timer m w n) j ≡ room m j
  unfolding room set_timer
  room-set_timer j hj = splice-after m timer_at (w ∷ n ∷ []) fits-timer (room_at j) (row_at j).most (room-start j hj)

  -- no part that lies apart from the timer changes
  pub part-set_timer : (i l : ℕ) → (i + l ≤ timer_at) ⊎ (timer_at + 2 ≤ i) → part (set_timer m w n) i l ≡ part m i l
  unfolding set_timer
  part-set_timer i l (inl h) = splice_before m timer_at (w ∷ n ∷ []) fits-timer i l h
  part-set_timer i l (inr h) = splice-after m timer_at (w ∷ n ∷ []) fits-timer i l h
