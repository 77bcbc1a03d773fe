-- Octets between two values: rooms follow each other without gaps, so the tails of several join up to one part.
use Prim.Native.Nat.{ℕ, zero, suc, ◌+◌, ◌-◌, ◌≤◌, ◌<◌}
use native.Mathlib.Omega.{arith}
use native.Mathlib.Nat.{add-sub_of_le, sub-zero, suc-sub-suc}
use native.Mathlib.Numerals.{add-one}
use mathlib.Core.Path.{◌≡◌, refl, sym, ap, ◌∙◌}
use mathlib.Core.Bool.{Bool, true, false, cond, ◌&&◌, and_assoc}
use mathlib.Core.List.{List, [], ◌∷◌, ◌++◌}
use lib.ListN.{take, drop}
use lib.Seq.{drop-drop, take-add, take-nil}
use lib.Dec.{eqb}
use borrow.Author.Tests.{eqb-true}
use Rattle.meaning.specs.Octets.{part, blank, below}
use Rattle.meaning.specs.Table.{rows, row_at, rooms, room_at}
use Rattle.meaning.specs.Memory.{cell, room, size}
use Rattle.meaning.proofs.Tests.{below_at}
use Rattle.std.specs.Prelude.{Option, Some, None}
use Rattle.std.specs.Bool.{then_some}
use Rattle.soundness.specs.Fields.{tail_at, gap_at}

-- ---- rooms follow each other

abbrev follows : ℕ → Bool
follows k = eqb (room_at (suc k)) (room_at k + (row_at k).most)

all-follow : below 19 follows ≡ true
unfolding below row_at room_at rooms rows
all-follow = refl

pub room_next : (k : ℕ) → k < 19 → room_at (k + 1) ≡ room_at k + (row_at k).most
room_next k h = rw add-one (eqb-true (room_at (suc k)) (room_at k + (row_at k).most) (below_at 19 follows all-follow k h))

-- ---- parts side by side

blank-append : (a b : List ℕ) → blank (a ++ b) ≡ (blank a && blank b)
unfolding blank
blank-append [] b = refl
blank-append (x ∷ a) b = rw (blank-append a b) (sym (and_assoc (eqb x 0) (blank a) (blank b)))

part-more : (s : List ℕ) (i a b : ℕ) → part s i (a + b) ≡ part s i a ++ part s (i + a) b
unfolding part
part-more s i a b = take-add a b (drop i s) ∙ rw drop-drop

drop-take : (j n : ℕ) (l : List ℕ) → drop j (take n l) ≡ take (n - j) (drop j l)
drop-take zero n l = rw sub-zero
drop-take (suc j) zero l =
    let z : 0 - suc j ≡ 0 = omega arith in
    rw z
drop-take (suc j) (suc n) [] = sym (take-nil (suc n - suc j))
drop-take (suc j) (suc n) (x ∷ l) = rw suc-sub-suc (drop-take j n l)

drop-part : (s : List ℕ) (i n j : ℕ) → drop j (part s i n) ≡ part s (i + j) (n - j)
unfolding part
drop-part s i n j = drop-take j n (drop i s) ∙ rw drop-drop

-- ---- a gap grows by a room without a value, or ends at a value

module _ (m : List ℕ) (k end : ℕ) (h : k < 19) (e : end ≤ room_at k) where
  gap_grows : size (cell m k) ≡ 0 → blank (part m end (room_at (k + 1) - end)) ≡ (blank (part m end (room_at k - end)) && tail_at m k)
  unfolding tail_at room
  gap_grows z =
      let n : room_at (k + 1) - end ≡ room_at k - end + (row_at k).most = omega (arith, room_next k h) in
      let p : end + (room_at k - end) ≡ room_at k = add-sub_of_le e in
      rw (n, z, part-more m end (room_at k - end) (row_at k).most, p) (blank-append (part m end (room_at k - end)) (part m (room_at k) (row_at k).most))

  gap_ends : blank (part m (room_at k + size (cell m k)) (room_at (k + 1) - (room_at k + size (cell m k)))) ≡ tail_at m k
  unfolding tail_at room
  gap_ends =
      let j = size (cell m k) in
      let n : room_at (k + 1) - (room_at k + j) ≡ (row_at k).most - j = omega (arith, room_next k h) in
      rw n (ap blank (sym (drop-part m (room_at k) (row_at k).most j)))

  -- the next ones start where what is looked at then, up to the next room, is with what was looked at the octets before this room and
  -- this one's tail; where no next ones do, one of these is not blank
  unfoldable pub Goes-on : Option ℕ → Type 0
  Goes-on (Some next) =
      (blank (part m next (room_at (k + 1) - next)) ≡ (blank (part m end (room_at k - end)) && tail_at m k)) × (next ≤ room_at (k + 1))
  Goes-on None = (blank (part m end (room_at k - end)) && tail_at m k) ≡ false

  pub gap_joins : size (cell m k) ≤ (row_at k).most → Goes-on (gap_at m k end)
  unfolding gap_at Goes-on
  gap_joins l = go (eqb (size (cell m k)) 0) (blank (part m end (room_at k - end))) refl refl
    where
      go : (b c : Bool) → eqb (size (cell m k)) 0 ≡ b → blank (part m end (room_at k - end)) ≡ c
          → Goes-on (cond b (Some end) (then_some c (room_at k + size (cell m k))))
      go true c z _ = (gap_grows (eqb-true (size (cell m k)) 0 z), omega (arith, room_next k h, e))
      go false true z y = (gap_ends ∙ rw y, omega (arith, room_next k h, l))
      go false false z y = rw y
