-- The block of the four values, stored as what runs: where they stand in memory, and what the copies from room to room leave.
use Prim.Native.Nat.{ℕ, zero, suc, ◌+◌, ◌-◌, ◌≤◌}
use native.Mathlib.Omega.{arith}
use mathlib.Core.Path.{◌≡◌, refl, sym, ap, ap₂, ◌∙◌}
use mathlib.Core.Bool.{true, false, ◌||◌, or-false}
use mathlib.Core.List.{List, [], ◌∷◌, ◌++◌, append_assoc}
use lib.ListN.{length, take, drop, length-append, length-take, length-replicate}
use lib.Seq.{take_all, take-take, take-add, drop-drop}
use borrow.Rule.Slice.PartMut.{put_mid}
use Rattle.meaning.specs.Octets.{part, splice, zeros}
use Rattle.meaning.specs.Table.{rows, rooms, row_at, room_at, admin_base_time, admin_control_list_length, admin_control_list, admin_cycle_time, commit}
use Rattle.meaning.specs.Block.{joined_block}
use Rattle.meaning.specs.Memory.{cell, room, size, subscribed, pending, in_flight, body, flags, cell_of, room_of, put_cell, put_room, put, store}
use Rattle.meaning.specs.Step.{block}
use Rattle.meaning.proofs.Lists.{length_part, splice-length, splice_before, splice-after}
use Rattle.meaning.proofs.Places.{length-cell_of, put_cell-length}
use Rattle.meaning.proofs.Answered.{body-length}
use Rattle.octets.specs.Writing.{Wrote}
use Rattle.octets.proofs.Splices.{then, lent_back}

-- ---- where the four values stand

-- a value as long as its room is its room
pub fills : (m : List ℕ) (k : ℕ) {r : List ℕ} → r ≡ room m k → length r ≡ (row_at k).most → length (body m k) ≡ (row_at k).most → r ≡ body m k
unfolding body
fills m k e l b = e ∙ sym (take_all (size (cell m k)) (room m k) (omega (arith, ap length e, l, b, length-take (size (cell m k)) (room m k))))

take_again : (n : ℕ) (s : List ℕ) → take (length (take n s)) s ≡ take n s
take_again zero s = refl
take_again (suc n) [] = refl
take_again (suc n) (x ∷ s) = ap (λ (t : List ℕ). x ∷ t) (take_again n s)

part-add : (s : List ℕ) (i a b : ℕ) → part s i (a + b) ≡ part s i a ++ part s (i + a) b
unfolding part
part-add s i a b = take-add a b (drop i s) ∙ ap (λ (t : List ℕ). take a (drop i s) ++ take b t) (drop-drop a i s)

module _ (m : List ℕ) (hm : length m ≡ 2100) (hb : length (body m admin_base_time) ≡ 10) (hc : length (body m admin_control_list_length) ≡ 4) (hr : length (body m admin_cycle_time) ≡ 8) where
  -- octets of the list
  abbrev listed : ℕ
  listed = length (body m admin_control_list)

  base_stands : part m 125 10 ≡ body m admin_base_time
  unfolding room row_at room_at rooms rows
  base_stands = fills m admin_base_time refl (length_part m 125 10 (omega arith)) hb

  count_stands : part m 135 4 ≡ body m admin_control_list_length
  unfolding room row_at room_at rooms rows
  count_stands = fills m admin_control_list_length refl (length_part m 135 4 (omega arith)) hc

  ratio_stands : part m 587 8 ≡ body m admin_cycle_time
  unfolding room row_at room_at rooms rows
  ratio_stands = fills m admin_cycle_time refl (length_part m 587 8 (omega arith)) hr

  pub list-short : listed ≤ 448
  unfolding row_at rows
  list-short = body-length m admin_control_list

  list_stands : part m 139 listed ≡ body m admin_control_list
  unfolding part body room row_at room_at rooms rows
  list_stands =
      let z = size (cell m admin_control_list) in
      sym (take-take (length (take z (take 448 (drop 139 m)))) 448 (drop 139 m) list-short) ∙ take_again z (take 448 (drop 139 m))

  -- the rooms of the first three adjoin
  head_stands : part m 125 (14 + listed) ≡ body m admin_base_time ++ (body m admin_control_list_length ++ body m admin_control_list)
  head_stands =
      ap (part m 125) (omega arith)
      ∙ part-add m 125 10 (4 + listed)
      ∙ ap₂ ◌++◌ base_stands (part-add m 135 4 listed ∙ ap₂ ◌++◌ count_stands list_stands)

  -- the block in its two stretches
  stretches : part m 125 (14 + listed) ++ part m 587 8 ≡ block m
  unfolding block joined_block
  stretches =
      ap₂ ◌++◌ head_stands ratio_stands
      ∙ append_assoc (body m admin_base_time) (body m admin_control_list_length ++ body m admin_control_list) (body m admin_cycle_time)
      ∙ ap (λ (t : List ℕ). body m admin_base_time ++ t) (append_assoc (body m admin_control_list_length) (body m admin_control_list) (body m admin_cycle_time))

  head-length : length (part m 125 (14 + listed)) ≡ 14 + listed
  head-length = length_part m 125 (14 + listed) (omega (arith, list-short))

  pub block-long : length (block m) ≡ 14 + listed + 8
  block-long =
      sym (ap length stretches)
      ∙ length-append (part m 125 (14 + listed)) (part m 587 8)
      ∙ ap₂ ◌+◌ head-length (length_part m 587 8 (omega arith))

  -- ---- cell, stretches and tail, written one after another

  -- what stands behind the cells stays where the block's cell is written
  behind-cell : (f k i j : ℕ) → 114 ≤ i → part (put_cell m commit f k) i j ≡ part m i j
  unfolding put_cell
  behind-cell f k i j h =
      splice-after m 108 (cell_of commit f k) (omega (arith, hm, length-cell_of commit f k)) i j (omega (arith, h, length-cell_of commit f k))

  module _ (f : ℕ) {at : ℕ} {m₁ m₂ : List ℕ} (e₁ : m₁ ≡ put_cell m commit f (14 + listed + 8))
      (w₂ : Wrote m₁ 1630 (part m₁ 125 (14 + listed)) at m₂)
    where
      long : length m₁ ≡ 2100
      long = ap length e₁ ∙ put_cell-length m commit f (14 + listed + 8) hm (omega arith)

      head-kept : part m₁ 125 (14 + listed) ≡ part m 125 (14 + listed)
      head-kept = ap (λ (t : List ℕ). part t 125 (14 + listed)) e₁ ∙ behind-cell f _ 125 _ (omega arith)

      pub at_is : at ≡ 1630 + (14 + listed)
      at_is = w₂.0 ∙ ap (λ (t : List ℕ). 1630 + length t) head-kept ∙ ap (λ (k : ℕ). 1630 + k) head-length

      head-written : m₂ ≡ splice m₁ 1630 (part m 125 (14 + listed))
      head-written = w₂.1 ∙ ap (splice m₁ 1630) head-kept

      ratio-kept : part m₂ 587 8 ≡ part m 587 8
      ratio-kept =
          ap (λ (t : List ℕ). part t 587 8) head-written
          ∙ splice_before m₁ 1630 (part m 125 (14 + listed)) (omega (arith, long, head-length, list-short)) 587 8 (omega arith)
          ∙ ap (λ (t : List ℕ). part t 587 8) e₁
          ∙ behind-cell f _ 587 8 (omega arith)

      module _ {end : ℕ} {m₃ : List ℕ} (w₃ : Wrote m₂ at (part m₂ 587 8) end m₃) where
        pub end_is : end ≡ 1630 + length (block m)
        end_is = omega (arith, w₃.0, ap length ratio-kept, length_part m 587 8 (omega arith), at_is, block-long)

        block_written : m₃ ≡ splice m₁ 1630 (block m)
        block_written =
            then m₁ (part m 125 (14 + listed)) (part m 587 8) 1630 at (omega (arith, long, head-length, list-short))
            (omega (arith, at_is, head-length)) head-written (w₃.1 ∙ ap (splice m₂ at) ratio-kept)
            ∙ ap (splice m₁ 1630) stretches

        block-fits : 1630 + length (block m) ≤ length m₁
        block-fits = omega (arith, long, block-long, list-short)

        -- with zeros behind it up to the memory's end, the room holds the block alone
        pub block-stored : {r : List ℕ} → f ≡ flags true (subscribed m commit) (pending m commit || false) (in_flight m commit)
            → r ≡ take 0 (part m₃ end (2100 - end)) ++ zeros (length (part m₃ end (2100 - end)) - 0)
            → put_mid end (2100 - end) m₃ r ≡ store m commit (block m)
        unfolding store put put_room room_of row_at room_at rooms rows
        block-stored {r = r} hf e =
            let b = block-long in
            let l = list-short in
            let o : length m₃ ≡ 2100 = ap length block_written ∙ splice-length m₁ 1630 (block m) block-fits ∙ long in
            let h : end ≤ 2100 = omega (arith, end_is, b, l) in
            let k : length (part m₃ end (2100 - end)) - 0 ≡ 470 - length (block m) = omega (arith, length_part m₃ end (2100 - end) (omega (arith, o, h)), end_is) in
            let z : r ≡ zeros (470 - length (block m)) = e ∙ ap zeros k in
            let n : length r ≡ 2100 - end = ap length z ∙ length-replicate (470 - length (block m)) 0 ∙ omega (arith, end_is) in
            then m₁ (block m) (zeros (470 - length (block m))) 1630 end block-fits end_is block_written (lent_back m₃ r end 2100 h n ∙ ap (splice m₃ end) z)
            ∙ ap (λ (t : List ℕ). splice t 1630 (block m ++ zeros (470 - length (block m)))) (e₁ ∙ ap₂ (put_cell m commit) (hf ∙ rw or-false) (sym b))
