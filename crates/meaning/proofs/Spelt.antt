-- Sound memory clause by clause (RULES 5.1 to 5.14, 5.17), octet by octet: the test passes exactly if each clause holds.
use Prim.Native.Nat.{ℕ, suc, ◌+◌, ◌-◌, ◌*◌, ◌≤◌, ◌<◌}
use native.Mathlib.Omega.{arith}
use mathlib.Core.Path.{◌≡◌, refl, sym, ap, ◌∙◌}
use mathlib.Core.Logic.{◌⊎◌, inl, inr}
use mathlib.Core.Bool.{Bool, true, false, ◌&&◌, cond}
use mathlib.Core.List.{List, [], ◌∷◌}
use lib.ListN.{length, drop, length-drop}
use lib.Seq.{get_or-drop, length-take-le, take-take}
use lib.Dec.{eqb, leb}
use borrow.Author.Tests.{leb-true, le-leb, ltb-true, lt-ltb, eqb-true, eq-eqb}
use Rattle.meaning.specs.Octets.{octet, at16, part, blank, every}
use Rattle.meaning.specs.Table.{row_at, room_at, by_port, entry_count, memory_length, timer_at, gate_enabled, admin_base_time, admin_control_list_length, admin_control_list, admin_cycle_time, supported_list_max, commit}
use Rattle.meaning.specs.Block.{keeps, permits}
use Rattle.meaning.specs.Memory.{cell_at, cell, room, body, size, timer, waiting, is_present, is_subscribed, is_pending, is_in_flight, present, subscribed, pending, in_flight, four_present, timer_sound, sound}
use Rattle.meaning.proofs.Lists.{part-octet, length_part}
use Rattle.meaning.proofs.Tests.{and_left, and_right, and_both, every_at, implied, implies_of, blank-octet}
use Rattle.meaning.proofs.Places.{room_end}
use Rattle.meaning.proofs.Sound.{opened, closed, Entry, entry_of, entry_closed, four_at_lem}

-- ---- the clauses

-- the length that an entry gives
abbrev pub length_at : List ℕ → ℕ → ℕ
length_at m k = octet m (6 * k + 4) * 256 + octet m (6 * k + 5)

pub record EntrySpelt (m : List ℕ) (k : ℕ) : Type 0 where
  pub name : octet m (6 * k) * 256 + octet m (6 * k + 1) ≡ (row_at k).name
  pub zero_octet : octet m (6 * k + 3) ≡ 0
  pub no_other_flag : octet m (6 * k + 2) < 16
  pub pending_only : pending m k ≡ true → (subscribed m k ≡ true) × (by_port (row_at k).owner ≡ true)
  pub in_flight_only : in_flight m k ≡ true → (subscribed m k ≡ true) × (by_port (row_at k).owner ≡ true) × (octet m 114 ≡ 1)
  pub absent_empty : present m k ≡ false → length_at m k ≡ 0
  pub present_length : present m k ≡ true → ((row_at k).least ≤ length_at m k) × (length_at m k ≤ (row_at k).most)
  pub present_rule : present m k ≡ true → keeps (row_at k).rule (body m k) ≡ true
  pub tail : (i : ℕ) → length_at m k ≤ i → i < (row_at k).most → octet m (room_at k + i) ≡ 0

pub record SoundSpelt (m : List ℕ) : Type 0 where
  pub long : length m ≡ 2100
  pub entries : (k : ℕ) → k < 19 → EntrySpelt m k
  pub gate_present : present m gate_enabled ≡ true
  pub list_max_present : present m supported_list_max ≡ true
  pub runs_over_four : present m commit ≡ true
      → (present m admin_base_time ≡ true) × (present m admin_control_list_length ≡ true) × (present m admin_control_list ≡ true) × (present m admin_cycle_time ≡ true)
  pub timer : ((octet m 114 ≡ 1) × (octet m 115 ≤ 4)) ⊎ ((octet m 114 ≡ 0) × (octet m 115 ≡ 0))

-- ---- octets of a cell and of a room

cell-octet : (m : List ℕ) (k j : ℕ) → j < 6 → octet (cell m k) j ≡ octet m (6 * k + j)
unfolding cell
cell-octet m k j h = part-octet m (cell_at k) 6 j h

cell-first : (m : List ℕ) (k : ℕ) → octet (cell m k) 0 ≡ octet m (6 * k)
cell-first m k = cell-octet m k 0 (omega arith) ∙ ap (λ (i : ℕ). octet m i) (omega arith)

size_spelt : (m : List ℕ) (k : ℕ) → size (cell m k) ≡ length_at m k
unfolding size at16
size_spelt m k = rw (cell-octet m k 4 (omega arith), cell-octet m k 5 (omega arith))

name_spelt : (m : List ℕ) (k : ℕ) → at16 (cell m k) 0 ≡ octet m (6 * k) * 256 + octet m (6 * k + 1)
unfolding at16
name_spelt m k = rw (cell-first m k, cell-octet m k 1 (omega arith))

room-length : (m : List ℕ) (k : ℕ) → length m ≡ memory_length → k < entry_count → length (room m k) ≡ (row_at k).most
unfolding room
room-length m k hm hk = length_part m (room_at k) (row_at k).most (rw hm (room_end k hk))

tail_octet : (m : List ℕ) (k n i : ℕ) → n + i < (row_at k).most → octet (drop n (room m k)) i ≡ octet m (room_at k + (n + i))
unfolding room
tail_octet m k n i h = get_or-drop n (part m (room_at k) (row_at k).most) i 0 ∙ part-octet m (room_at k) (row_at k).most (n + i) h

timer-octet : (m : List ℕ) (j : ℕ) → j < 2 → octet (timer m) j ≡ octet m (timer_at + j)
unfolding timer
timer-octet m j h = part-octet m timer_at 2 j h

timer-first : (m : List ℕ) → octet (timer m) 0 ≡ octet m 114
timer-first m = timer-octet m 0 (omega arith)

timer-second : (m : List ℕ) → octet (timer m) 1 ≡ octet m 115
timer-second m = timer-octet m 1 (omega arith)

blank_of : (s : List ℕ) → ((i : ℕ) → i < length s → octet s i ≡ 0) → blank s ≡ true
unfolding blank
blank_of [] h = refl
blank_of (x ∷ s) h = and_both (eq-eqb x 0 (h 0 (omega arith))) (blank_of s (λ i l. h (suc i) (omega arith)))

-- ---- an entry

module _ (m : List ℕ) (k : ℕ) (hm : length m ≡ memory_length) (hk : k < entry_count) where
  body-long : size (cell m k) ≤ (row_at k).most → length (body m k) ≡ length_at m k
  unfolding body
  body-long h = length-take-le (size (cell m k)) (room m k) (rw (room-length m k hm hk) h) ∙ size_spelt m k

  entry_spelt : Entry (waiting m) (row_at k) (cell m k) (room m k) → EntrySpelt m k
  unfolding present subscribed pending in_flight waiting permits body
  entry_spelt e =
      let most : size (cell m k) ≤ (row_at k).most = e.in_room in
      let held : is_present (cell m k) ≡ true → permits (row_at k) (body m k) ≡ true = λ p. rw p at e.held in
      record {
        name = sym (name_spelt m k) ∙ e.name;
        zero_octet = sym (cell-octet m k 3 (omega arith)) ∙ e.zero_octet;
        no_other_flag = omega (arith, ltb-true (octet (cell m k) 2) 16 e.flagged, cell-octet m k 2 (omega arith));
        pending_only = λ p. let b = implied (is_pending (cell m k)) _ e.marks p in (and_left _ _ b, and_right (is_subscribed (cell m k)) _ b);
        in_flight_only = λ p.
            let b = implied (is_in_flight (cell m k)) _ e.flight p in
            let o = and_right (is_subscribed (cell m k)) _ b in
            (and_left _ _ b, and_left _ _ o, sym (timer-first m) ∙ eqb-true _ _ (and_right (by_port (row_at k).owner) _ o));
        absent_empty = λ p. sym (size_spelt m k) ∙ eqb-true _ _ (rw p at e.held);
        present_length = λ p.
            let l = body-long most in
            let a : (row_at k).least ≤ length (body m k) = leb-true _ _ (every_at _ 0 (held p)) in
            (rw l at a, rw (size_spelt m k) at most);
        present_rule = λ p. every_at _ 2 (held p);
        tail = λ i a b.
            let n = size (cell m k) in
            let z : n ≡ length_at m k = size_spelt m k in
            let j : n + (i - n) ≡ i = omega arith in
            ap (λ (l : ℕ). octet m (room_at k + l)) (sym j) ∙ sym (tail_octet m k n (i - n) (rw j b)) ∙ blank-octet (drop n (room m k)) (i - n) e.tail;
      }

  most_spelt : EntrySpelt m k → size (cell m k) ≤ (row_at k).most
  most_spelt e = go (present m k) refl
    where
      go : (b : Bool) → present m k ≡ b → size (cell m k) ≤ (row_at k).most
      go true p = rw (size_spelt m k) (e.present_length p).1
      go false p = omega (arith, size_spelt m k, e.absent_empty p)

  held_spelt : EntrySpelt m k → cond (present m k) (permits (row_at k) (body m k)) (eqb (size (cell m k)) 0) ≡ true
  unfolding permits every
  held_spelt e = go (present m k) refl
    where
      go : (b : Bool) → present m k ≡ b → cond b (permits (row_at k) (body m k)) (eqb (size (cell m k)) 0) ≡ true
      go true p =
          let l = body-long (most_spelt e) in
          let h = e.present_length p in
          simp (le-leb (row_at k).least (length (body m k)) (rw l h.0), le-leb (length (body m k)) (row_at k).most (rw l h.1), e.present_rule p)
      go false p = eq-eqb _ _ (size_spelt m k ∙ e.absent_empty p)

  spelt_entry : EntrySpelt m k → Entry (waiting m) (row_at k) (cell m k) (room m k)
  unfolding present subscribed pending in_flight waiting body
  spelt_entry e =
      let n = size (cell m k) in
      let z : n ≡ length_at m k = size_spelt m k in
      let r : length (room m k) ≡ (row_at k).most = room-length m k hm hk in
      record {
        name = name_spelt m k ∙ e.name;
        zero_octet = cell-octet m k 3 (omega arith) ∙ e.zero_octet;
        flagged = lt-ltb (octet (cell m k) 2) 16 (omega (arith, e.no_other_flag, cell-octet m k 2 (omega arith)));
        marks = implies_of _ _ (λ p. and_both (e.pending_only p).0 (e.pending_only p).1);
        flight = implies_of _ _ (λ p. let b = e.in_flight_only p in and_both b.0 (and_both b.1 (eq-eqb _ _ (timer-first m ∙ b.2))));
        in_room = most_spelt e;
        held = held_spelt e;
        tail =
            blank_of (drop n (room m k))
            (λ i h.
            let l : n + i < (row_at k).most = omega (arith, length-drop n (room m k)) in
            tail_octet m k n i l ∙ e.tail (n + i) (omega arith) l);
      }

-- ---- the timer

abbrev Timer : List ℕ → Type 0
Timer m = ((octet m 114 ≡ 1) × (octet m 115 ≤ 4)) ⊎ ((octet m 114 ≡ 0) × (octet m 115 ≡ 0))

timer_spelt : (m : List ℕ) → timer_sound (timer m) ≡ true → Timer m
unfolding timer_sound
timer_spelt m e = go (eqb (octet (timer m) 0) 1) refl e
  where
    go : (w : Bool) → eqb (octet (timer m) 0) 1 ≡ w
        → cond w (leb (octet (timer m) 1) 4) (eqb (octet (timer m) 0) 0 && eqb (octet (timer m) 1) 0) ≡ true
        → Timer m
    go true w h = inl (sym (timer-first m) ∙ eqb-true _ _ w, rw (timer-second m) at (leb-true (octet (timer m) 1) 4 h))
    go false w h = inr (sym (timer-first m) ∙ eqb-true _ _ (and_left _ _ h), sym (timer-second m) ∙ eqb-true _ _ (and_right (eqb (octet (timer m) 0) 0) _ h))

spelt_timer : (m : List ℕ) → Timer m → timer_sound (timer m) ≡ true
unfolding timer_sound
spelt_timer m t = go t
  where
    go : Timer m → cond (eqb (octet (timer m) 0) 1) (leb (octet (timer m) 1) 4) (eqb (octet (timer m) 0) 0 && eqb (octet (timer m) 1) 0) ≡ true
    go (inl h) = rw (timer-first m, timer-second m, h.0) (le-leb _ _ h.1)
    go (inr h) = rw (timer-first m, timer-second m, h.0, h.1)

-- ---- the memory

pub sound_spelt : (m : List ℕ) → sound m ≡ true → SoundSpelt m
sound_spelt m e =
    let S = opened m e in
    record {
      long = S.long;
      entries = λ k hk. entry_spelt m k S.long hk (entry_of m S k hk);
      gate_present = S.gate;
      list_max_present = S.list_max;
      runs_over_four = λ p. let f = S.runs p in (four_at_lem m 0 f, four_at_lem m 1 f, four_at_lem m 2 f, four_at_lem m 3 f);
      timer = timer_spelt m S.timed;
    }

pub spelt_sound : (m : List ℕ) → SoundSpelt m → sound m ≡ true
unfolding four_present every
spelt_sound m s =
    closed m
    record {
      long = s.long;
      entries = λ k hk. entry_closed (waiting m) (row_at k) (cell m k) (room m k) (spelt_entry m k s.long hk (s.entries k hk));
      gate = s.gate_present;
      list_max = s.list_max_present;
      runs = λ p. let f = s.runs_over_four p in simp (f.0, f.1, f.2, f.3);
      timed = spelt_timer m s.timer;
    }

-- ---- a value stands at its room's start, as long as its entry says

pub body_spelt : (m : List ℕ) → sound m ≡ true → (k : ℕ) → k < entry_count → body m k ≡ part m (room_at k) (length_at m k)
unfolding body room part
body_spelt m e k hk =
    take-take (size (cell m k)) (row_at k).most (drop (room_at k) m) (entry_of m (opened m e) k hk).in_room
    ∙ ap (λ (n : ℕ). part m (room_at k) n) (size_spelt m k)

pub body_measures : (m : List ℕ) → sound m ≡ true → (k : ℕ) → k < entry_count → length (body m k) ≡ length_at m k
body_measures m e k hk = body-long m k (opened m e).long hk (entry_of m (opened m e) k hk).in_room
