-- What becomes of the marks by a set (RULES 11.12), by subscribe and unsubscribe (RULES 11.21 to 11.24) and by a local value (RULES 13.5 to 13.11).
use Prim.Native.Nat.{ℕ, ◌≤◌, ◌<◌}
use native.Mathlib.Omega.{arith}
use native.Mathlib.Decide.{ℕ_discrete}
use mathlib.Core.Path.{◌≡◌, refl, sym, ap, ◌∙◌}
use mathlib.Core.Logic.{◌≢◌, ◌↔◌}
use mathlib.Core.Bool.{Bool, true, false, ◌&&◌, ◌||◌, not}
use mathlib.Core.List.{List, [], ◌∷◌}
use lib.ListN.{length}
use lib.Dec.{leb}
use borrow.Author.Tests.{leb-true, eqb-true, not-false}
use Rattle.meaning.specs.Octets.{same, nonempty, below, implies}
use Rattle.meaning.specs.Checks.{first_failed}
use Rattle.meaning.specs.Table.{row_at, rows, place, by_port, entry_count}
use Rattle.meaning.specs.Memory.{cell, room, timer, size, body, flags, put, store, set_marks, present, subscribed, pending, in_flight, sound}
use Rattle.meaning.specs.Profile.{listed}
use Rattle.meaning.specs.Step.{stored, set_checks, set_memory, subscribe_memory, unsubscribe_memory}
use Rattle.meaning.specs.Calls.{differs, local_memory}
use Rattle.meaning.proofs.Tests.{same_true, same_refl, implied, below_at}
use Rattle.meaning.proofs.Values.{permits_opened}
use Rattle.meaning.proofs.Places.{listed-place, cell-put-same, cell-put_other}
use Rattle.meaning.proofs.Checked.{set_either}
use Rattle.meaning.proofs.Sound.{Sound, opened, entry_of, flags-cell_of}
use Rattle.meaning.proofs.Turned.{cell-set_marks_other, room-set_marks, present-set_marks, body-set_marks, timer-set_marks, Marked, SameMarks, cell_marks, set_marks_marks, set_marks_marks_other}
use Rattle.meaning.proofs.Kept.{permits-most, stored-permitted, settable, Local, local_held}
use Rattle.meaning.proofs.Commit.{body-permitted}

-- ---- an entry put

module _ (m : List ℕ) (k : ℕ) (p s q i : Bool) (v : List ℕ) (S : Sound m) (hk : k < entry_count) (hv : length v ≤ (row_at k).most) where
  put_marks : Marked (put m k (flags p s q i) v) k s q i
  unfolding subscribed pending in_flight
  put_marks =
      let e = cell-put-same m k (flags p s q i) v S.long hk hv in
      let f = flags-cell_of k p s q i (length v) in
      record { subscription = rw e f.is_wanted; pendency = rw e f.is_due; flight = rw e f.is_out }

  put_marks_other : (j : ℕ) → j < entry_count → j ≢ k → SameMarks m (put m k (flags p s q i) v) j
  put_marks_other j hj ne = cell_marks m (put m k (flags p s q i) v) j (cell-put_other m k (flags p s q i) v S.long hk hv j hj ne)

-- ---- a set leaves every mark (RULES 11.12)

pub set_marks_lem : (p : ℕ) (m : List ℕ) (n : ℕ) (v : List ℕ) → sound m ≡ true → (j : ℕ) → j < entry_count → SameMarks m (set_memory p m n v) j
unfolding store
set_marks_lem p m n v s j hj =
    set_either p m n v (λ m'. SameMarks m m' j) (λ e. put_there e (ℕ_discrete j (place n))) (cell_marks m m j refl)
  where
    put_there : first_failed (set_checks p m n v) ≡ 0 → Dec (j ≡ place n) → SameMarks m (store m (place n) (stored p m (place n) v)) j
    put_there e d =
        let t = settable p m n v e in
        let k = place n in
        let w = stored p m k v in
        let hk = listed-place p n t.is_listed in
        let hv = permits-most (row_at k) w (stored-permitted p m k v t.allowed).0 in
        let at : Dec (j ≡ k) → SameMarks m (put m k (flags true (subscribed m k) (pending m k) (in_flight m k)) w) j =
        elim [
          | yes y ↦ rw y (put_marks m k true (subscribed m k) (pending m k) (in_flight m k) w (opened m s) hk hv)
          | no ne ↦ put_marks_other m k true (subscribed m k) (pending m k) (in_flight m k) w (opened m s) hk hv j hj ne
        ] in
        at d

-- ---- subscribe and unsubscribe (RULES 11.21, 11.22)

pub subscribe_marks : (p : ℕ) (m : List ℕ) (n : ℕ) → sound m ≡ true → listed p n ≡ true → Marked (subscribe_memory p m n) (place n) true (pending m (place n)) (in_flight m (place n))
unfolding subscribe_memory
subscribe_marks p m n s e = rw e (set_marks_marks m (place n) true (pending m (place n)) (in_flight m (place n)) (opened m s) (listed-place p n e))

pub unsubscribe_marks : (p : ℕ) (m : List ℕ) (n : ℕ) → sound m ≡ true → listed p n ≡ true → Marked (unsubscribe_memory p m n) (place n) false false false
unfolding unsubscribe_memory
unsubscribe_marks p m n s e = rw e (set_marks_marks m (place n) false false false (opened m s) (listed-place p n e))

pub subscribe_others : (p : ℕ) (m : List ℕ) (n : ℕ) → sound m ≡ true → listed p n ≡ true → (j : ℕ) → j ≢ place n → SameMarks m (subscribe_memory p m n) j
unfolding subscribe_memory
subscribe_others p m n s e j ne = rw e (set_marks_marks_other m (place n) true (pending m (place n)) (in_flight m (place n)) (opened m s) (listed-place p n e) j ne)

pub unsubscribe_others : (p : ℕ) (m : List ℕ) (n : ℕ) → sound m ≡ true → listed p n ≡ true → (j : ℕ) → j ≢ place n → SameMarks m (unsubscribe_memory p m n) j
unfolding unsubscribe_memory
unsubscribe_others p m n s e j ne = rw e (set_marks_marks_other m (place n) false false false (opened m s) (listed-place p n e) j ne)

-- all but the marks of one entry: presence and value of each, every octet of the others, every room and the timer
pub record MarksOnly (m : List ℕ) (k : ℕ) (m' : List ℕ) : Type 0 where
  pub presences : (j : ℕ) → j < entry_count → present m' j ≡ present m j
  pub values : (j : ℕ) → j < entry_count → body m' j ≡ body m j
  pub others : (j : ℕ) → j ≢ k → cell m' j ≡ cell m j
  pub rooms : (j : ℕ) → j < entry_count → room m' j ≡ room m j
  pub same_timer : timer m' ≡ timer m

marks_only : (m : List ℕ) (k : ℕ) (s q i : Bool) → Sound m → k < entry_count → MarksOnly m k (set_marks m k s q i)
marks_only m k s q i S hk =
    record {
      presences = present-set_marks m k s q i S hk;
      values = body-set_marks m k s q i S hk;
      others = cell-set_marks_other m k s q i S hk;
      rooms = room-set_marks m k s q i S hk;
      same_timer = timer-set_marks m k s q i S hk;
    }

pub subscribe_leaves : (p : ℕ) (m : List ℕ) (n : ℕ) → sound m ≡ true → listed p n ≡ true → MarksOnly m (place n) (subscribe_memory p m n)
unfolding subscribe_memory
subscribe_leaves p m n s e = rw e (marks_only m (place n) true (pending m (place n)) (in_flight m (place n)) (opened m s) (listed-place p n e))

pub unsubscribe_leaves : (p : ℕ) (m : List ℕ) (n : ℕ) → sound m ≡ true → listed p n ≡ true → MarksOnly m (place n) (unsubscribe_memory p m n)
unfolding unsubscribe_memory
unsubscribe_leaves p m n s e = rw e (marks_only m (place n) false false false (opened m s) (listed-place p n e))

-- nothing for other names (RULES 11.24)
pub unlisted_nothing : (p : ℕ) (m : List ℕ) (n : ℕ) → listed p n ≡ false → (subscribe_memory p m n ≡ m) × (unsubscribe_memory p m n ≡ m)
unfolding subscribe_memory unsubscribe_memory
unlisted_nothing p m n e = (rw e, rw e)

-- ---- a local value: pending if it was, or if the name is subscribed and the value or its presence differs; in flight as it was

pub local_marks_after : (m : List ℕ) (n : ℕ) (v : List ℕ) → sound m ≡ true → Local n v
    → Marked (local_memory m (place n) v) (place n) (subscribed m (place n)) (pending m (place n) || (subscribed m (place n) && differs m (place n) v)) (in_flight m (place n))
unfolding local_memory
local_marks_after m n v s l =
    put_marks m (place n) (nonempty v) (subscribed m (place n)) _ (in_flight m (place n)) v (opened m s) l.in_table (local_held (row_at (place n)) v l.allowed).1

-- every other entry's marks stay
pub local_marks_others : (m : List ℕ) (n : ℕ) (v : List ℕ) → sound m ≡ true → Local n v → (j : ℕ) → j < entry_count → j ≢ place n → SameMarks m (local_memory m (place n) v) j
unfolding local_memory
local_marks_others m n v s l j hj ne =
    put_marks_other m (place n) (nonempty v) (subscribed m (place n)) _ (in_flight m (place n)) v (opened m s) l.in_table
    (local_held (row_at (place n)) v l.allowed).1 j hj ne

-- no value that the port sets is empty
abbrev never_empty : ℕ → Bool
never_empty k = implies (by_port (row_at k).owner) (leb 1 (row_at k).least)

all_never_empty : below entry_count never_empty ≡ true
unfolding below implies by_port row_at rows
all_never_empty = refl

nonempty_some : (w : List ℕ) → 1 ≤ length w → nonempty w ≡ true
nonempty_some [] h = absurd (omega arith)
nonempty_some (x ∷ w) h = refl

absent_empty_lem : (m : List ℕ) (k : ℕ) → Sound m → k < entry_count → present m k ≡ false → body m k ≡ []
unfolding present body
absent_empty_lem m k S hk p =
    let e : size (cell m k) ≡ 0 = eqb-true _ _ (rw p at (entry_of m S k hk).held) in
    rw e

pub present-nonempty : (m : List ℕ) (k : ℕ) → Sound m → k < entry_count → by_port (row_at k).owner ≡ true → present m k ≡ nonempty (body m k)
present-nonempty m k S hk o = go (present m k) refl
  where
    least : 1 ≤ (row_at k).least
    least = leb-true _ _ (implied _ _ (below_at entry_count never_empty all_never_empty k hk) o)

    go : (b : Bool) → present m k ≡ b → present m k ≡ nonempty (body m k)
    go true p =
        let h = permits_opened (row_at k) (body m k) (body-permitted m S k hk p) in
        p ∙ sym (nonempty_some (body m k) (omega (arith, least)))
    go false p = p ∙ sym (ap nonempty (absent_empty_lem m k S hk p))

-- so it differs exactly if the value or its presence does
pub differs_not : (m : List ℕ) (k : ℕ) (v : List ℕ) → Sound m → k < entry_count → by_port (row_at k).owner ≡ true
    → (differs m k v ≡ false) ↔ ((body m k ≡ v) × (present m k ≡ nonempty v))
unfolding differs
differs_not m k v S hk o = (to, from)
  where
    to : not (same (body m k) v) ≡ false → (body m k ≡ v) × (present m k ≡ nonempty v)
    to d =
        let e = same_true (body m k) v (not-false (same (body m k) v) d) in
        (e, present-nonempty m k S hk o ∙ ap nonempty e)

    from : (body m k ≡ v) × (present m k ≡ nonempty v) → not (same (body m k) v) ≡ false
    from e = rw (e.0, same_refl v)
