-- Marks set, the third kind of change that keeps memory sound, and the marks of a notification when it is sent, acknowledged or given up: what those of
-- each entry become, and that all else stays.
use Prim.Native.Nat.{ℕ, zero, suc, ◌+◌, ◌*◌, ◌≤◌, ◌<◌}
use native.Mathlib.Omega.{arith}
use native.Mathlib.Decide.{ℕ_discrete}
use mathlib.Core.Path.{◌≡◌, refl, ◌∙◌}
use mathlib.Core.Logic.{◌≢◌}
use mathlib.Core.Bool.{Bool, true, ◌&&◌, and-true}
use mathlib.Core.List.{List}
use lib.ListN.{length}
use Rattle.meaning.specs.Octets.{octet, at16, implies}
use Rattle.meaning.specs.Table.{row_at, by_port, entry_count, memory_length, gate_enabled, supported_list_max}
use Rattle.meaning.specs.Memory.{cell, room, size, timer, waiting, body, flags, set_marks, is_present, present, subscribed, pending, in_flight, sound}
use Rattle.meaning.specs.Calls.{Moment, when_sent, when_acknowledged, when_given_up, pending_after, in_flight_after, turned}
use Rattle.meaning.proofs.Tests.{and_left, and_right, and_both, implied}
use Rattle.meaning.proofs.Moments.{both, both_at}
use Rattle.meaning.proofs.Places.{flagged_length, octet_flagged, flags_flagged, cell-octet_flagged, cell_flagged_other, room_flagged, timer_flagged}
use Rattle.meaning.proofs.Sound.{EntrySound, Sound, opened, closed, Entry, entry_of, entry_closed, Flagged, flagged, MarksRight, waiting_by, runs_by}

-- ---- marks are set, and memory stays sound

module _ (m : List ℕ) (k : ℕ) (s q i : Bool) (S : Sound m) (hk : k < entry_count) where
  abbrev flags_now : ℕ
  flags_now = flags (present m k) s q i

  pub set_marks-length : length (set_marks m k s q i) ≡ memory_length
  unfolding set_marks
  set_marks-length = flagged_length m k flags_now S.long hk

  pub timer-set_marks : timer (set_marks m k s q i) ≡ timer m
  unfolding set_marks
  timer-set_marks = timer_flagged m k flags_now S.long hk

  -- every octet but that of the flags
  pub octet-set_marks : (j : ℕ) → j ≢ 6 * k + 2 → octet (set_marks m k s q i) j ≡ octet m j
  unfolding set_marks
  octet-set_marks j ne = octet_flagged m k flags_now S.long hk j ne

  pub cell-set_marks-same : Flagged (cell (set_marks m k s q i) k) (present m k) s q i
  unfolding set_marks
  cell-set_marks-same = flagged (cell (set_marks m k s q i) k) (present m k) s q i (flags_flagged m k flags_now S.long hk)

  pub cell-set_marks_other : (j : ℕ) → j ≢ k → cell (set_marks m k s q i) j ≡ cell m j
  unfolding set_marks
  cell-set_marks_other j ne = cell_flagged_other m k flags_now S.long hk j ne

  pub room-set_marks : (j : ℕ) → j < entry_count → room (set_marks m k s q i) j ≡ room m j
  unfolding set_marks
  room-set_marks j hj = room_flagged m k flags_now S.long hk j hj

  octet-same : (j : ℕ) → j < 6 → j ≢ 2 → octet (cell (set_marks m k s q i) k) j ≡ octet (cell m k) j
  unfolding set_marks
  octet-same j hj ne = cell-octet_flagged m k flags_now S.long hk j hj ne

  size_same : size (cell (set_marks m k s q i) k) ≡ size (cell m k)
  unfolding size at16
  size_same = rw (octet-same 4 (omega arith) (λ e. absurd (omega arith)), octet-same 5 (omega arith) (λ e. absurd (omega arith)))

  pub present-set_marks : (j : ℕ) → j < entry_count → present (set_marks m k s q i) j ≡ present m j
  unfolding present
  present-set_marks j hj = go (ℕ_discrete j k)
    where
      go : Dec (j ≡ k) → is_present (cell (set_marks m k s q i) j) ≡ is_present (cell m j)
      go (yes y) = rw y cell-set_marks-same.is_there
      go (no ne) = rw (cell-set_marks_other j ne)

  pub size-set_marks : (j : ℕ) → j < entry_count → size (cell (set_marks m k s q i) j) ≡ size (cell m j)
  size-set_marks j hj = go (ℕ_discrete j k)
    where
      go : Dec (j ≡ k) → size (cell (set_marks m k s q i) j) ≡ size (cell m j)
      go (yes y) = rw y size_same
      go (no ne) = rw (cell-set_marks_other j ne)

  pub body-set_marks : (j : ℕ) → j < entry_count → body (set_marks m k s q i) j ≡ body m j
  unfolding body
  body-set_marks j hj = rw (size-set_marks j hj, room-set_marks j hj)

  -- the entry itself: other marks, all else as it was
  set_marks_own : MarksRight (waiting m) k s q i → Entry (waiting m) (row_at k) (cell (set_marks m k s q i) k) (room m k)
  unfolding present at16
  set_marks_own marks =
      let e = entry_of m S k hk in
      let f = cell-set_marks-same in
      record {
        name = rw (octet-same 0 (omega arith) (λ x. absurd (omega arith)), octet-same 1 (omega arith) (λ x. absurd (omega arith))) e.name;
        zero_octet = octet-same 3 (omega arith) (λ x. absurd (omega arith)) ∙ e.zero_octet;
        flagged = f.no_other;
        marks = rw (f.is_due, f.is_wanted) marks.due;
        flight = rw (f.is_out, f.is_wanted) marks.out;
        in_room = rw size_same e.in_room;
        held = rw (f.is_there, size_same) e.held;
        tail = rw size_same e.tail;
      }

  set_marks_entry : MarksRight (waiting m) k s q i → (j : ℕ) → j < entry_count → Dec (j ≡ k) → EntrySound (set_marks m k s q i) j
  set_marks_entry marks j hj (yes y) =
      rw (waiting_by m (set_marks m k s q i) timer-set_marks, y, room-set_marks k hk)
      (entry_closed (waiting m) (row_at k) (cell (set_marks m k s q i) k) (room m k) (set_marks_own marks))
  set_marks_entry marks j hj (no ne) =
      rw (waiting_by m (set_marks m k s q i) timer-set_marks, cell-set_marks_other j ne, room-set_marks j hj) (S.entries j hj)

  pub set_marks-sound : MarksRight (waiting m) k s q i → sound (set_marks m k s q i) ≡ true
  set_marks-sound marks =
      closed (set_marks m k s q i)
      record {
        long = set_marks-length;
        entries = λ j hj. set_marks_entry marks j hj (ℕ_discrete j k);
        gate = present-set_marks gate_enabled (omega arith) ∙ S.gate;
        list_max = present-set_marks supported_list_max (omega arith) ∙ S.list_max;
        runs = runs_by m (set_marks m k s q i) present-set_marks S.runs;
        timed = rw timer-set_marks S.timed;
      }

-- ---- the marks of the entry at place j

pub record Marked (m : List ℕ) (j : ℕ) (s q i : Bool) : Type 0 where
  pub subscription : subscribed m j ≡ s
  pub pendency : pending m j ≡ q
  pub flight : in_flight m j ≡ i

-- all marks of an entry as they were
abbrev pub SameMarks : List ℕ → List ℕ → ℕ → Type 0
SameMarks m m' j = Marked m' j (subscribed m j) (pending m j) (in_flight m j)

pub cell_marks : (m m' : List ℕ) (j : ℕ) → cell m' j ≡ cell m j → SameMarks m m' j
unfolding subscribed pending in_flight
cell_marks m m' j e = record { subscription = rw e; pendency = rw e; flight = rw e }

-- those of sound memory
pub marks_of : (m : List ℕ) (k : ℕ) → Sound m → k < entry_count → MarksRight (waiting m) k (subscribed m k) (pending m k) (in_flight m k)
unfolding subscribed pending in_flight
marks_of m k S hk =
    let e = entry_of m S k hk in
    record { due = e.marks; out = e.flight }

module _ (m : List ℕ) (k : ℕ) (s q i : Bool) (S : Sound m) (hk : k < entry_count) where
  pub set_marks_marks : Marked (set_marks m k s q i) k s q i
  unfolding subscribed pending in_flight
  set_marks_marks =
      let f = cell-set_marks-same m k s q i S hk in
      record { subscription = f.is_wanted; pendency = f.is_due; flight = f.is_out }

  pub set_marks_marks_other : (j : ℕ) → j ≢ k → SameMarks m (set_marks m k s q i) j
  set_marks_marks_other j ne = cell_marks m (set_marks m k s q i) j (cell-set_marks_other m k s q i S hk j ne)

-- ---- a turn

-- marks that stand where they may, with or without a subscription s and the port o, still do when they turn
abbrev stays_right : Moment → Bool → Bool → Bool → Bool → Bool
stays_right t s o q i =
    implies (implies q (s && o) && implies i (s && o)) (implies (pending_after t q i) (s && o) && implies (in_flight_after t q i) (s && o))

all_stay : (t : Moment) → both (λ s. both (λ o. both (λ q. both (λ i. stays_right t s o q i)))) ≡ true
unfolding implies pending_after in_flight_after
all_stay when_sent = refl
all_stay when_acknowledged = refl
all_stay when_given_up = refl

turn-right : (t : Moment) (w s o q i : Bool) → w ≡ true → implies q (s && o) ≡ true → implies i (s && (o && w)) ≡ true
    → (implies (pending_after t q i) (s && o) ≡ true) × (implies (in_flight_after t q i) (s && (o && w)) ≡ true)
turn-right t w s o q i h d u =
    let a = both_at (λ b. both (λ c. both (λ e. both (λ f. stays_right t b c e f)))) (all_stay t) s in
    let b = both_at (λ c. both (λ e. both (λ f. stays_right t s c e f))) a o in
    let c = both_at (λ e. both (λ f. stays_right t s o e f)) b q in
    let r = implied _ _ (both_at (λ f. stays_right t s o q f) c i) (and_both d (rw (h, and-true) at u)) in
    (and_left _ _ r, rw (h, and-true) (and_right (implies (pending_after t q i) (s && o)) _ r))

-- what the marks of an entry become
abbrev pub MarkedAfter : Moment → List ℕ → List ℕ → ℕ → Type 0
MarkedAfter t m m' j = Marked m' j (subscribed m j) (pending_after t (pending m j) (in_flight m j)) (in_flight_after t (pending m j) (in_flight m j))

-- the first k entries of m turned, giving m': their flags alone differ, and memory is sound
pub record Turned (t : Moment) (k : ℕ) (m m' : List ℕ) : Type 0 where
  pub is_sound : sound m' ≡ true
  pub same_timer : timer m' ≡ timer m
  pub marks : (j : ℕ) → j < k → MarkedAfter t m m' j
  pub rest : (j : ℕ) → k ≤ j → cell m' j ≡ cell m j
  pub presences : (j : ℕ) → j < entry_count → present m' j ≡ present m j
  pub values : (j : ℕ) → j < entry_count → body m' j ≡ body m j
  pub rooms : (j : ℕ) → j < entry_count → room m' j ≡ room m j
  pub octets : (j : ℕ) → ((l : ℕ) → l < k → j ≢ 6 * l + 2) → octet m' j ≡ octet m j

module _ (t : Moment) (k : ℕ) (m c : List ℕ) (hk : k < entry_count) (w : waiting m ≡ true) (T : Turned t k m c) where
  S : Sound c
  S = opened c T.is_sound

  abbrev due : Bool
  due = pending_after t (pending c k) (in_flight c k)

  abbrev out : Bool
  out = in_flight_after t (pending c k) (in_flight c k)

  abbrev next : List ℕ
  next = set_marks c k (subscribed c k) due out

  next-sound : sound next ≡ true
  next-sound =
      let r = marks_of c k S hk in
      let b = turn-right t (waiting c) (subscribed c k) (by_port (row_at k).owner) (pending c k) (in_flight c k) (waiting_by m c T.same_timer ∙ w) r.due r.out in
      set_marks-sound c k (subscribed c k) due out S hk record { due = b.0; out = b.1 }

  -- the entry that is turned had its marks still
  own_marks : MarkedAfter t m next k
  own_marks =
      let e = cell_marks m c k (T.rest k (omega arith)) in
      let f = set_marks_marks c k (subscribed c k) due out S hk in
      record {
        subscription = f.subscription ∙ e.subscription;
        pendency = f.pendency ∙ rw (e.pendency, e.flight);
        flight = f.flight ∙ rw (e.pendency, e.flight);
      }

  next_marks : (j : ℕ) → j < suc k → MarkedAfter t m next j
  next_marks j h = go (ℕ_discrete j k)
    where
      go : Dec (j ≡ k) → MarkedAfter t m next j
      go (yes y) = rw y own_marks
      go (no ne) =
          let e = set_marks_marks_other c k (subscribed c k) due out S hk j ne in
          let f = T.marks j (omega arith) in
          record { subscription = e.subscription ∙ f.subscription; pendency = e.pendency ∙ f.pendency; flight = e.flight ∙ f.flight }

  turned-next : Turned t (suc k) m next
  turned-next =
      record {
        is_sound = next-sound;
        same_timer = timer-set_marks c k (subscribed c k) due out S hk ∙ T.same_timer;
        marks = next_marks;
        rest = λ j h. cell-set_marks_other c k (subscribed c k) due out S hk j (λ e. absurd (omega arith)) ∙ T.rest j (omega arith);
        presences = λ j h. present-set_marks c k (subscribed c k) due out S hk j h ∙ T.presences j h;
        values = λ j h. body-set_marks c k (subscribed c k) due out S hk j h ∙ T.values j h;
        rooms = λ j h. room-set_marks c k (subscribed c k) due out S hk j h ∙ T.rooms j h;
        octets = λ j h. octet-set_marks c k (subscribed c k) due out S hk j (h k (omega arith)) ∙ T.octets j (λ l g. h l (omega arith));
      }

-- in memory that waits
pub turned_to : (t : Moment) (k : ℕ) (m : List ℕ) → k ≤ entry_count → sound m ≡ true → waiting m ≡ true → Turned t k m (turned t k m)
unfolding turned
turned_to t zero m h s w =
    record {
      is_sound = s;
      same_timer = refl;
      marks = λ j l. absurd (omega arith);
      rest = λ j l. refl;
      presences = λ j l. refl;
      values = λ j l. refl;
      rooms = λ j l. refl;
      octets = λ j l. refl;
    }
turned_to t (suc k) m h s w = turned-next t k m (turned t k m) (omega arith) w (turned_to t k m (omega arith) s w)
