-- The tests as the code makes them: an entry without its tail, all entries and their tails, the whole memory, the bounds of a profile.
use Prim.Native.Nat.{ℕ, zero, suc, ◌+◌, ◌-◌, ◌/◌, ◌%◌, ◌≤◌, ◌<◌}
use native.Mathlib.Omega.{arith}
use native.Mathlib.Nat.{add-zero, add-suc, sub-zero}
use native.Mathlib.Decide.{dec_le}
use mathlib.Core.Path.{◌≡◌, refl, sym, ap}
use mathlib.Core.Bool.{Bool, true, false, ◌&&◌, ◌||◌, not, cond, and-true, and_assoc, and_comm}
use mathlib.Core.List.{List, ◌∷◌}
use lib.ListN.{length, take}
use lib.Seq.{length-take-le}
use lib.Dec.{eqb, leb, ltb}
use borrow.Author.Tests.{eq-eqb, ne_eqb, leb-true, le-leb, le-ltb}
use Rattle.std.specs.Prelude.{◌≢◌}
use Rattle.meaning.specs.Octets.{octet, at16, every, below, implies}
use Rattle.meaning.specs.Table.{Row, row_at, by_port, entry_count, admin_control_list, supported_list_max, commit}
use Rattle.meaning.specs.Block.{permits}
use Rattle.meaning.specs.Memory.{cell, room, is_present, is_subscribed, is_pending, is_in_flight, size, subscribed, body, waiting, entry_sound, entries_sound, sound}
use Rattle.meaning.specs.Profile.{release16, is_release16, is_profile, bounded, sound_in}
use Rattle.meaning.specs.FormB.{in_form_b, sound_form_b}
use Rattle.meaning.proofs.Tests.{every_at, below_at}
use Rattle.soundness.specs.Fields.{cell_sound, fields_sound, fields_at, tail_at, all_fields, all_tails, across_sound}

-- where a test under n fails, one under more does
pub below_denied : (f : ℕ → Bool) (n : ℕ) → below n f ≡ false → (k : ℕ) → below (n + k) f ≡ false
unfolding below
below_denied f n e zero = rw add-zero e
below_denied f n e (suc k) = rw (add-suc, below_denied f n e k)

-- four tests, the first two and the last two exchanged in the middle
crossed : (a b c d : Bool) → (a && b && (c && d)) ≡ (a && c && (b && d))
crossed a b c d = rw (and_assoc a b (c && d), and_assoc a c (b && d)) (ap (λ (t : Bool). a && t) (rw (sym (and_assoc b c d), sym (and_assoc c b d), and_comm b c)))

below_both : (f g : ℕ → Bool) (n : ℕ) → below n (λ k. f k && g k) ≡ (below n f && below n g)
unfolding below
below_both f g zero = refl
below_both f g (suc n) = rw (below_both f g n) (crossed (below n f) (below n g) (f n) (g n))

below-same : (f g : ℕ → Bool) → ((k : ℕ) → f k ≡ g k) → (n : ℕ) → below n f ≡ below n g
unfolding below
below-same f g e zero = refl
below-same f g e (suc n) = rw (below-same f g e n, e n)

-- an entry is sound: what it holds, and its tail
entry_parts : (m : List ℕ) (k : ℕ) → entry_sound (waiting m) (row_at k) (cell m k) (room m k) ≡ (fields_at m k && tail_at m k)
unfolding entry_sound fields_at fields_sound cell_sound tail_at every
entry_parts m k = simp (and_assoc, and-true)

-- the marks by two comparisons, and by name: tried on the sixteen octets that flags may be, and neither passes for a larger one
abbrev by_number : Bool → Bool → ℕ → Bool
by_number w p f = ltb f (cond p (cond w 16 8) 4) && (not (leb 4 f) || eqb (f / 2 % 2) 1)

abbrev by_name : Bool → Bool → ℕ → Bool
by_name w p f = ltb f 16 && (implies (eqb (f / 4 % 2) 1) (eqb (f / 2 % 2) 1 && p) && implies (eqb (f / 8 % 2) 1) (eqb (f / 2 % 2) 1 && (p && w)))

abbrev agree : Bool → Bool → Bool
agree a b = cond a b (not b)

agreed : (a b : Bool) → agree a b ≡ true → a ≡ b
agreed true b e = sym e
agreed false true e = e
agreed false false e = refl

tests_agree : (w p : Bool) → below 16 (λ f. agree (by_number w p f) (by_name w p f)) ≡ true
unfolding below implies
tests_agree true true = refl
tests_agree true false = refl
tests_agree false true = refl
tests_agree false false = refl

flags_tests : (w p : Bool) (f : ℕ) → by_number w p f ≡ by_name w p f
flags_tests w p f = go (dec_le 16 f)
  where
    over : (l : ℕ) → l ≤ 16 → 16 ≤ f → ltb f l ≡ false
    over l h g = le-ltb f l (omega arith)

    most : (a b : Bool) → cond a (cond b 16 8) 4 ≤ 16
    most true true = omega arith
    most true false = omega arith
    most false b = omega arith

    go : Dec (16 ≤ f) → by_number w p f ≡ by_name w p f
    go (yes h) = rw (over (cond p (cond w 16 8) 4) (most p w) h, over 16 (omega arith) h)
    go (no h) = agreed _ _ (below_at 16 (λ x. agree (by_number w p x) (by_name w p x)) (tests_agree w p) f (omega arith))

-- a cell's tests of what was found in it and in its row
pub cell_found : (w : Bool) (r : Row) (c : List ℕ) {i n l : ℕ} {s : Bool} → i ≡ at16 c 0 → n ≡ r.name → l ≡ cond (by_port r.owner) (cond w 16 8) 4 → s ≡ is_subscribed c
    → (eqb i n && (eqb (octet c 3) 0 && (ltb (octet c 2) l && (not (leb 4 (octet c 2)) || s)))) ≡ cell_sound w r c
unfolding cell_sound every is_subscribed is_pending is_in_flight
cell_found w r c ei en el es = rw (ei, en, el, es, and-true, flags_tests w (by_port r.owner) (octet c 2))

-- what an entry holds, from a value of n octets that is cut from its room
pub fields_tests : (w : Bool) (r : Row) (c s : List ℕ) (n : ℕ) → n ≡ size c → n ≤ length s → length s ≡ r.most
    → (cell_sound w r c && cond (is_present c) (permits r (take (n - 0) s)) (eqb (length (take (n - 0) s)) 0)) ≡ fields_sound w r c s
unfolding fields_sound every
fields_tests w r c s n e h l =
    rw (sub-zero, length-take-le n s h, sym e, le-leb n r.most (omega arith), and-true)

-- entries looked at one after another
pub first_field : (m : List ℕ) {a : Bool} → a ≡ fields_at m 0 → a ≡ below 1 (fields_at m)
unfolding below
first_field m e = e

pub next_field : (m : List ℕ) (k : ℕ) {a b : Bool} → a ≡ below k (fields_at m) → b ≡ fields_at m k → (a && b) ≡ below (suc k) (fields_at m)
unfolding below
next_field m k e f = rw (e, f)

pub sound_parts : (m : List ℕ) → length m ≡ 2100 → (all_fields m && (all_tails m && across_sound m)) ≡ sound m
unfolding sound entries_sound all_fields all_tails across_sound every
sound_parts m h =
    rw (
      eq-eqb (length m) 2100 h,
      below-same (λ k. entry_sound (waiting m) (row_at k) (cell m k) (room m k)) (λ k. fields_at m k && tail_at m k) (entry_parts m) entry_count,
      below_both (fields_at m) (tail_at m) entry_count,
    )
    (simp and_assoc)

-- octets of another length are not sound, in neither form
pub another-length : (m : List ℕ) → length m ≢ 2100 → false ≡ sound m
unfolding sound every
another-length m h = rw (ne_eqb (length m) 2100 h)

pub another-form : (b : List ℕ) → length b ≢ 2101 → false ≡ sound_form_b b
unfolding sound_form_b in_form_b
another-form b h = rw (ne_eqb (length b) 2101 h)

-- form B, tested of the octet ahead and of the memory behind it
pub form_tests : (p : ℕ) (m : List ℕ) → length m ≡ 2100 → (is_profile p && (sound m && bounded p m)) ≡ sound_form_b (p ∷ m)
unfolding sound_form_b in_form_b sound_in
form_tests p m h = rw (eq-eqb (suc (length m)) 2101 (omega (arith, h)))

-- where all entries hold what they must, no length passes its room
pub fields_fit : (m : List ℕ) → all_fields m ≡ true → (k : ℕ) → k < 19 → size (cell m k) ≤ (row_at k).most
unfolding all_fields fields_at fields_sound
fields_fit m e k h = leb-true _ _ (every_at _ 1 (below_at entry_count (fields_at m) e k h))

-- the bounds of Release 16, tested of what was found in memory
pub bounds_found : (p : ℕ) (m : List ℕ) {l b : List ℕ} {s : Bool} → p ≡ release16 → l ≡ body m admin_control_list → b ≡ body m commit → s ≡ subscribed m supported_list_max
    → (leb (length l) 252 && (leb (length b) 274 && not s)) ≡ bounded p m
unfolding bounded is_release16 implies every
bounds_found p m e el eb es = rw (eq-eqb p release16 e, el, eb, es, and-true)
