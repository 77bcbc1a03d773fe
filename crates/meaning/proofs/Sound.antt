-- Sound memory taken apart and put together, and two kinds of change that keep it sound: an entry put, the timer. Marks are in Turned.
use Prim.Native.Nat.{ℕ, ◌-◌, ◌/◌, ◌%◌, ◌≤◌, ◌<◌}
use native.Mathlib.Omega.{arith}
use native.Mathlib.Decide.{ℕ_discrete}
use mathlib.Core.Path.{◌≡◌, refl, sym, ap, ◌∙◌}
use mathlib.Core.Logic.{◌≢◌, ◌⊎◌, inl, inr}
use mathlib.Core.Bool.{Bool, true, false, ◌&&◌, cond, false≢true}
use mathlib.Core.List.{List, [], ◌∷◌}
use lib.ListN.{length, get_or, take, drop}
use lib.Seq.{take-append_seam, drop-append_seam}
use lib.Dec.{eqb, ltb}
use borrow.Author.Tests.{leb-true, eqb-true, eq-eqb, le-leb}
use Rattle.meaning.specs.Octets.{octet, at16, be16, blank, every, implies}
use Rattle.meaning.specs.Table.{Row, row_at, rows, by_port, entry_count, memory_length, gate_enabled, admin_base_time, admin_control_list_length, admin_control_list, admin_cycle_time, supported_list_max, commit}
use Rattle.meaning.specs.Block.{permits}
use Rattle.meaning.specs.Memory.{cell, room, body, timer, waiting, cell_of, room_of, put, set_timer, flags, flag_limit, bit, size, is_present, is_subscribed, is_pending, is_in_flight, present, in_flight, entry_sound, entries_sound, four_present, timer_sound, sound}
use Rattle.meaning.proofs.Lists.{at16-be16}
use Rattle.meaning.proofs.Tests.{implies_of, implied, every_at, below_at, below_all, blank-zeros}
use Rattle.meaning.proofs.Places.{name-small, most-small, put-length, cell-put-same, cell-put_other, room-put-same, room-put_other, timer-put, set_timer-length, timer-set_timer, cell-set_timer, room-set_timer}

-- ---- the parts of sound

abbrev pub EntrySound : List ℕ → ℕ → Type 0
EntrySound m k = entry_sound (waiting m) (row_at k) (cell m k) (room m k) ≡ true

pub record Sound (m : List ℕ) : Type 0 where
  pub long : length m ≡ memory_length
  pub entries : (k : ℕ) → k < entry_count → EntrySound m k
  pub gate : present m gate_enabled ≡ true
  pub list_max : present m supported_list_max ≡ true
  pub runs : present m commit ≡ true → four_present m ≡ true
  pub timed : timer_sound (timer m) ≡ true

pub opened : (m : List ℕ) → sound m ≡ true → Sound m
unfolding sound entries_sound
opened m e =
    record {
      long = eqb-true _ _ (every_at _ 0 e);
      entries = below_at entry_count (λ k. entry_sound (waiting m) (row_at k) (cell m k) (room m k)) (every_at _ 1 e);
      gate = every_at _ 2 e;
      list_max = every_at _ 3 e;
      runs = implied _ _ (every_at _ 4 e);
      timed = every_at _ 5 e;
    }

pub closed : (m : List ℕ) → Sound m → sound m ≡ true
unfolding sound every entries_sound
closed m s =
    simp (
      s.long,
      below_all entry_count (λ k. entry_sound (waiting m) (row_at k) (cell m k) (room m k)) s.entries,
      s.gate,
      s.list_max,
      implies_of _ _ s.runs,
      s.timed,
    )

pub four_at_lem : (m : List ℕ) (i : ℕ) → four_present m ≡ true
    → get_or (present m admin_base_time ∷ present m admin_control_list_length ∷ present m admin_control_list ∷ present m admin_cycle_time ∷ []) i true ≡ true
unfolding four_present
four_at_lem m i e = every_at _ i e

-- ---- the parts of an entry

pub record Entry (w : Bool) (r : Row) (c s : List ℕ) : Type 0 where
  pub name : at16 c 0 ≡ r.name
  pub zero_octet : octet c 3 ≡ 0
  pub flagged : ltb (octet c 2) flag_limit ≡ true
  pub marks : implies (is_pending c) (is_subscribed c && by_port r.owner) ≡ true
  pub flight : implies (is_in_flight c) (is_subscribed c && (by_port r.owner && w)) ≡ true
  pub in_room : size c ≤ r.most
  pub held : cond (is_present c) (permits r (take (size c) s)) (eqb (size c) 0) ≡ true
  pub tail : blank (drop (size c) s) ≡ true

pub entry_opened : (w : Bool) (r : Row) (c s : List ℕ) → entry_sound w r c s ≡ true → Entry w r c s
unfolding entry_sound
entry_opened w r c s e =
    record {
      name = eqb-true _ _ (every_at _ 0 e);
      zero_octet = eqb-true _ _ (every_at _ 1 e);
      flagged = every_at _ 2 e;
      marks = every_at _ 3 e;
      flight = every_at _ 4 e;
      in_room = leb-true _ _ (every_at _ 5 e);
      held = every_at _ 6 e;
      tail = every_at _ 7 e;
    }

pub entry_closed : (w : Bool) (r : Row) (c s : List ℕ) → Entry w r c s → entry_sound w r c s ≡ true
unfolding entry_sound every
entry_closed w r c s e =
    simp (
      eq-eqb _ _ e.name,
      eq-eqb _ _ e.zero_octet,
      e.flagged,
      e.marks,
      e.flight,
      le-leb _ _ e.in_room,
      e.held,
      e.tail,
    )

pub entry_of : (m : List ℕ) → Sound m → (k : ℕ) → k < entry_count → Entry (waiting m) (row_at k) (cell m k) (room m k)
entry_of m s k h = entry_opened (waiting m) (row_at k) (cell m k) (room m k) (s.entries k h)

-- ---- what the flags of a cell say

-- each by itself, and no other bit
pub record Flagged (c : List ℕ) (p s q i : Bool) : Type 0 where
  pub is_there : is_present c ≡ p
  pub is_wanted : is_subscribed c ≡ s
  pub is_due : is_pending c ≡ q
  pub is_out : is_in_flight c ≡ i
  pub no_other : ltb (octet c 2) flag_limit ≡ true

flags_say : (p s q i : Bool) → let f = flags p s q i in
    (eqb (f % 2) 1 ≡ p) × (eqb (f / 2 % 2) 1 ≡ s) × (eqb (f / 4 % 2) 1 ≡ q) × (eqb (f / 8 % 2) 1 ≡ i) × (ltb f flag_limit ≡ true)
unfolding flags bit
flags_say true true true true = (refl, refl, refl, refl, refl)
flags_say true true true false = (refl, refl, refl, refl, refl)
flags_say true true false true = (refl, refl, refl, refl, refl)
flags_say true true false false = (refl, refl, refl, refl, refl)
flags_say true false true true = (refl, refl, refl, refl, refl)
flags_say true false true false = (refl, refl, refl, refl, refl)
flags_say true false false true = (refl, refl, refl, refl, refl)
flags_say true false false false = (refl, refl, refl, refl, refl)
flags_say false true true true = (refl, refl, refl, refl, refl)
flags_say false true true false = (refl, refl, refl, refl, refl)
flags_say false true false true = (refl, refl, refl, refl, refl)
flags_say false true false false = (refl, refl, refl, refl, refl)
flags_say false false true true = (refl, refl, refl, refl, refl)
flags_say false false true false = (refl, refl, refl, refl, refl)
flags_say false false false true = (refl, refl, refl, refl, refl)
flags_say false false false false = (refl, refl, refl, refl, refl)

pub flagged : (c : List ℕ) (p s q i : Bool) → octet c 2 ≡ flags p s q i → Flagged c p s q i
unfolding is_present is_subscribed is_pending is_in_flight
flagged c p s q i e =
    let f = flags_say p s q i in
    record { is_there = rw e f.0; is_wanted = rw e f.1; is_due = rw e f.2; is_out = rw e f.3; no_other = rw e f.4 }

pub flags-cell_of : (k : ℕ) (p s q i : Bool) (n : ℕ) → Flagged (cell_of k (flags p s q i) n) p s q i
unfolding cell_of be16
flags-cell_of k p s q i n = flagged (cell_of k (flags p s q i) n) p s q i refl

pub size-cell_of : (k f n : ℕ) → n < 65536 → size (cell_of k f n) ≡ n
unfolding size cell_of be16 at16
size-cell_of k f n h = omega arith

name-cell_of : (k f n : ℕ) → k < entry_count → at16 (cell_of k f n) 0 ≡ (row_at k).name
unfolding cell_of
name-cell_of k f n hk = at16-be16 (row_at k).name _ (name-small k hk)

zero-cell_of : (k f n : ℕ) → octet (cell_of k f n) 3 ≡ 0
unfolding cell_of be16
zero-cell_of k f n = refl

pub take-room_of : (k : ℕ) (v : List ℕ) → take (length v) (room_of k v) ≡ v
unfolding room_of
take-room_of k v = take-append_seam v _

drop-room_of : (k : ℕ) (v : List ℕ) → blank (drop (length v) (room_of k v)) ≡ true
unfolding room_of
drop-room_of k v = rw drop-append_seam (blank-zeros ((row_at k).most - length v))

-- the marks that the entry at place k may have, in memory that waits or does not
pub record MarksRight (w : Bool) (k : ℕ) (s q i : Bool) : Type 0 where
  pub due : implies q (s && by_port (row_at k).owner) ≡ true
  pub out : implies i (s && (by_port (row_at k).owner && w)) ≡ true

-- a cell of these flags and this length is right over a room that holds the value
cell-right : (w : Bool) (k : ℕ) (p s q i : Bool) (n : ℕ) (o : List ℕ) → k < entry_count → n ≤ (row_at k).most
    → MarksRight w k s q i → cond p (permits (row_at k) (take n o)) (eqb n 0) ≡ true → blank (drop n o) ≡ true
    → entry_sound w (row_at k) (cell_of k (flags p s q i) n) o ≡ true
cell-right w k p s q i n o hk hn e h t =
    let z : size (cell_of k (flags p s q i) n) ≡ n = size-cell_of k (flags p s q i) n (omega (arith, most-small k hk)) in
    let f = flags-cell_of k p s q i n in
    entry_closed w (row_at k) (cell_of k (flags p s q i) n) o
    record {
      name = name-cell_of k (flags p s q i) n hk;
      zero_octet = zero-cell_of k (flags p s q i) n;
      flagged = f.no_other;
      marks = rw (f.is_due, f.is_wanted) e.due;
      flight = rw (f.is_out, f.is_wanted) e.out;
      in_room = rw z hn;
      held = rw (f.is_there, z) h;
      tail = rw z t;
    }

-- the timer alone says whether memory waits
pub waiting_by : (m m' : List ℕ) → timer m' ≡ timer m → waiting m' ≡ waiting m
unfolding waiting
waiting_by m m' e = rw e

-- presence alone says whether a block may run
pub runs_by : (m m' : List ℕ) → ((j : ℕ) → j < entry_count → present m' j ≡ present m j) → (present m commit ≡ true → four_present m ≡ true)
    → present m' commit ≡ true → four_present m' ≡ true
unfolding four_present
runs_by m m' same =
    rw (
      same commit (omega arith),
      same admin_base_time (omega arith),
      same admin_control_list_length (omega arith),
      same admin_control_list (omega arith),
      same admin_cycle_time (omega arith),
    )
    (λ r. r)

-- ---- an entry is put

module _ (m : List ℕ) (k : ℕ) (p s q i : Bool) (v : List ℕ) (S : Sound m) (hk : k < entry_count) (hv : length v ≤ (row_at k).most) where
  abbrev put_m : List ℕ
  put_m = put m k (flags p s q i) v

  pub put-present-same : present put_m k ≡ p
  unfolding present
  put-present-same = rw (cell-put-same m k (flags p s q i) v S.long hk hv) (flags-cell_of k p s q i (length v)).is_there

  pub put-present_other : (j : ℕ) → j < entry_count → j ≢ k → present put_m j ≡ present m j
  unfolding present
  put-present_other j hj ne = rw (cell-put_other m k (flags p s q i) v S.long hk hv j hj ne)

  pub put-body-same : body put_m k ≡ v
  unfolding body
  put-body-same =
      rw (
        cell-put-same m k (flags p s q i) v S.long hk hv,
        room-put-same m k (flags p s q i) v S.long hk hv,
        size-cell_of k (flags p s q i) (length v) (omega (arith, most-small k hk)),
      )
      (take-room_of k v)

  pub put-body_other : (j : ℕ) → j < entry_count → j ≢ k → body put_m j ≡ body m j
  unfolding body
  put-body_other j hj ne =
      rw (cell-put_other m k (flags p s q i) v S.long hk hv j hj ne, room-put_other m k (flags p s q i) v S.long hk hv j hj ne)

  -- what is present stays so, unless it is what the port has made absent
  module _ (stays : (p ≡ true) ⊎ (by_port (row_at k).owner ≡ true)) where
    present_stays : (j : ℕ) → j < entry_count → by_port (row_at j).owner ≡ false → present m j ≡ true → present put_m j ≡ true
    present_stays j hj o e = go (ℕ_discrete j k) stays
      where
        go : Dec (j ≡ k) → (p ≡ true) ⊎ (by_port (row_at k).owner ≡ true) → present put_m j ≡ true
        go (no ne) t = put-present_other j hj ne ∙ e
        go (yes y) (inl t) = ap (present put_m) y ∙ put-present-same ∙ t
        go (yes y) (inr t) = absurd (false≢true (sym o ∙ ap (λ (l : ℕ). by_port (row_at l).owner) y ∙ t))

    four_stays : four_present m ≡ true → four_present put_m ≡ true
    unfolding four_present every by_port row_at rows
    four_stays e =
        simp (
          present_stays admin_base_time (omega arith) refl (four_at_lem m 0 e),
          present_stays admin_control_list_length (omega arith) refl (four_at_lem m 1 e),
          present_stays admin_control_list (omega arith) refl (four_at_lem m 2 e),
          present_stays admin_cycle_time (omega arith) refl (four_at_lem m 3 e),
        )

    pub put-sound : MarksRight (waiting m) k s q i → cond p (permits (row_at k) v) (eqb (length v) 0) ≡ true
        → (k ≡ commit → four_present m ≡ true) → sound put_m ≡ true
    unfolding by_port row_at rows
    put-sound marks held four =
        closed put_m
        record {
          long = put-length m k (flags p s q i) v S.long hk hv;
          entries = λ j hj. entry j hj (ℕ_discrete j k);
          gate = present_stays gate_enabled (omega arith) refl S.gate;
          list_max = present_stays supported_list_max (omega arith) refl S.list_max;
          runs = λ e. four_stays (runs e (ℕ_discrete commit k));
          timed = rw same-timer S.timed;
        }
      where
        same-timer : timer put_m ≡ timer m
        same-timer = timer-put m k (flags p s q i) v S.long hk hv

        entry : (j : ℕ) → j < entry_count → Dec (j ≡ k) → EntrySound put_m j
        entry j hj (yes y) =
            rw (waiting_by m put_m same-timer, y, cell-put-same m k (flags p s q i) v S.long hk hv, room-put-same m k (flags p s q i) v S.long hk hv)
            (cell-right (waiting m) k p s q i (length v) (room_of k v) hk hv marks (rw (take-room_of k v) held) (drop-room_of k v))
        entry j hj (no ne) =
            rw (waiting_by m put_m same-timer, cell-put_other m k (flags p s q i) v S.long hk hv j hj ne, room-put_other m k (flags p s q i) v S.long hk hv j hj ne)
            (S.entries j hj)

        runs : present put_m commit ≡ true → Dec (commit ≡ k) → four_present m ≡ true
        runs e (yes y) = four (sym y)
        runs e (no ne) = S.runs (sym (put-present_other commit (omega arith) ne) ∙ e)

-- ---- the timer is set

-- what is in flight stays right where the memory still waits
still_out : (i s o w w' : Bool) → implies i (s && (o && w)) ≡ true → (i ≡ true → w' ≡ true) → implies i (s && (o && w')) ≡ true
unfolding implies
still_out true true true w w' e f = f refl
still_out true true false w w' e f = absurd (false≢true e)
still_out true false o w w' e f = absurd (false≢true e)
still_out false s o w w' e f = refl

module _ (m : List ℕ) (w n : ℕ) (S : Sound m) where
  pub present-set_timer : (j : ℕ) → j < entry_count → present (set_timer m w n) j ≡ present m j
  unfolding present
  present-set_timer j hj = rw (cell-set_timer m w n S.long j hj)

  pub body-set_timer : (j : ℕ) → j < entry_count → body (set_timer m w n) j ≡ body m j
  unfolding body
  body-set_timer j hj = rw (cell-set_timer m w n S.long j hj, room-set_timer m w n S.long j hj)

  pub in_flight-set_timer : (j : ℕ) → j < entry_count → in_flight (set_timer m w n) j ≡ in_flight m j
  unfolding in_flight
  in_flight-set_timer j hj = rw (cell-set_timer m w n S.long j hj)

  -- an entry stays right as long as nothing is in flight once the timer does not wait
  set_timer_entry : ((j : ℕ) → j < entry_count → in_flight m j ≡ true → eqb w 1 ≡ true) → (j : ℕ) → j < entry_count → EntrySound (set_timer m w n) j
  unfolding waiting in_flight
  set_timer_entry f j hj =
      let e = entry_of m S j hj in
      rw (timer-set_timer m w n S.long, cell-set_timer m w n S.long j hj, room-set_timer m w n S.long j hj)
      (entry_closed (eqb w 1) (row_at j) (cell m j) (room m j)
      record {
        name = e.name;
        zero_octet = e.zero_octet;
        flagged = e.flagged;
        marks = e.marks;
        flight = still_out (is_in_flight (cell m j)) (is_subscribed (cell m j)) (by_port (row_at j).owner) _ (eqb w 1) e.flight (f j hj);
        in_room = e.in_room;
        held = e.held;
        tail = e.tail;
      })

  pub set_timer-sound : timer_sound (w ∷ n ∷ []) ≡ true → ((j : ℕ) → j < entry_count → in_flight m j ≡ true → eqb w 1 ≡ true) → sound (set_timer m w n) ≡ true
  set_timer-sound h f =
      closed (set_timer m w n)
      record {
        long = set_timer-length m w n S.long;
        entries = set_timer_entry f;
        gate = present-set_timer gate_enabled (omega arith) ∙ S.gate;
        list_max = present-set_timer supported_list_max (omega arith) ∙ S.list_max;
        runs = runs_by m (set_timer m w n) present-set_timer S.runs;
        timed = rw (timer-set_timer m w n S.long) h;
      }
