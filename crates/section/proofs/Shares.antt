-- The record of one answer: whose octets it is, that it fits at the place of its kind, and what writing it there leaves.
use Prim.Native.Nat.{ℕ, ◌+◌, ◌≤◌, ◌<◌}
use native.Mathlib.Nat.{add-zero}
use native.Mathlib.Omega.{arith}
use mathlib.Core.Path.{◌≡◌, refl, ap, ◌∙◌}
use mathlib.Core.Logic.{◌⊎◌, inl, inr}
use mathlib.Core.List.{List, [], ◌∷◌, append-nil}
use lib.ListN.{length}
use borrow.Author.Tests.{le-leb, lt-leb}
use Rattle.meaning.specs.Octets.{part, flat}
use Rattle.meaning.specs.Step.{shown}
use Rattle.meaning.specs.Reply.{record_of, held_octets, short_octets, failed_octets}
use Rattle.meaning.proofs.Lists.{length_part}
use Rattle.octets.specs.Writing.{Wrote}
use Rattle.octets.specs.Filling.{fill, Apart, Filled}
use Rattle.octets.proofs.Splices.{splice-nil}
use Rattle.operation.specs.declared.Op.{Op}
use Rattle.operation.specs.Handing.{name_of, from_of, size_of}
use Rattle.records.proofs.Lengths.{held-length, short-length, failed-length}
use Rattle.command.specs.declared.Answer.{Answer}
use Rattle.command.specs.declared.Answer.TheVariants.{Names, Value, ReadError, Update, UpdateError, Silent}
use Rattle.command.specs.Answers.{answer_of}
use Rattle.section.specs.declared.Places.{Places}
use Rattle.section.specs.Kinds.{Kind, Values, ReadErrors, Updates, UpdateErrors, LongUpdates, order, section}
use Rattle.section.specs.Places.{place_of, shares}

-- ---- places

-- what is written for a kind fits at its place
pub fits_at : (at : Kind → ℕ) (w : Kind → List ℕ) (hi : ℕ) (k : Kind) → Apart 0 order at w hi → at k + length (w k) ≤ hi
unfolding Apart order
fits_at at w hi Values a = omega arith
fits_at at w hi ReadErrors a = omega arith
fits_at at w hi Updates a = omega arith
fits_at at w hi UpdateErrors a = omega arith
fits_at at w hi LongUpdates a = omega arith

-- the places, each so many octets further on
unfoldable advance : Places → (Kind → ℕ) → Places
advance c n =
    record {
      values = c.values + n Values;
      read_errors = c.read_errors + n ReadErrors;
      updates = c.updates + n Updates;
      update_errors = c.update_errors + n UpdateErrors;
      long_updates = c.long_updates + n LongUpdates;
    }

advance_place : (c : Places) (n : Kind → ℕ) (k : Kind) → place_of (advance c n) k ≡ place_of c k + n k
unfolding place_of advance
advance_place c n Values = refl
advance_place c n ReadErrors = refl
advance_place c n Updates = refl
advance_place c n UpdateErrors = refl
advance_place c n LongUpdates = refl

filled : (c r : Places) (w : Kind → List ℕ) (out out' : List ℕ) → out' ≡ fill order (place_of c) w out → r ≡ advance c (λ k. length (w k))
    → Filled order (place_of c) w out (place_of r) out'
filled c r w out out' e f =
    record { written = e; places = λ k. ap (λ (d : Places). place_of d k) f ∙ advance_place c (λ j. length (w j)) k }

-- ---- whose octets the record is

one : {A : Type 0} (f : A → List ℕ) (x : A) → flat f (x ∷ []) ≡ f x
unfolding flat
one f x = append-nil (f x)

module _ (p : ℕ) (m s : List ℕ) (o : Op) (a : Answer) where
  -- the value of a set, a part of the list
  abbrev sent : List ℕ
  sent = part s (from_of o) (size_of o)

  long : from_of o + size_of o ≤ length s → length sent ≡ size_of o
  long h = length_part s (from_of o) (size_of o) h

  value_share : {q : ℕ} → a ≡ Value q → shares p m s o a Values ≡ held_octets (record { name = name_of o; value = shown p m q })
  unfolding section answer_of record_of
  value_share e = rw e (one held_octets _)

  read_error_share : {c : ℕ} → a ≡ ReadError c → shares p m s o a ReadErrors ≡ failed_octets (record { name = name_of o; cause = c })
  unfolding section answer_of record_of
  read_error_share e = rw e (one failed_octets _)

  update_error_share : {c : ℕ} → a ≡ UpdateError c → shares p m s o a UpdateErrors ≡ failed_octets (record { name = name_of o; cause = c })
  unfolding section answer_of record_of
  update_error_share e = rw e (one failed_octets _)

  short_share : a ≡ Update → from_of o + size_of o ≤ length s → size_of o ≤ 255 → shares p m s o a Updates ≡ short_octets (record { name = name_of o; value = sent })
  unfolding section answer_of record_of
  short_share e h l = rw (e, le-leb (length sent) 255 (omega (arith, long h, l))) (one short_octets _)

  long_share : a ≡ Update → from_of o + size_of o ≤ length s → 255 < size_of o → shares p m s o a LongUpdates ≡ held_octets (record { name = name_of o; value = sent })
  unfolding section answer_of record_of
  long_share e h l = rw (e, lt-leb (length sent) 255 (omega (arith, long h, l))) (one held_octets _)

  -- ---- it fits where the answer's shares do

  module _ (c : Places) (hi : ℕ) (h : Apart 0 order (place_of c) (shares p m s o a) hi) where
    pub value-fits : {q : ℕ} → a ≡ Value q → c.values + length (held_octets (record { name = name_of o; value = shown p m q })) ≤ hi
    unfolding place_of
    value-fits e = omega (arith, fits_at (place_of c) (shares p m s o a) hi Values h, ap length (value_share e))

    pub read_error-fits : {b : ℕ} → a ≡ ReadError b → c.read_errors + 3 ≤ hi
    unfolding place_of
    read_error-fits {b} e =
        omega (arith, fits_at (place_of c) (shares p m s o a) hi ReadErrors h, ap length (read_error_share e), failed-length (record { name = name_of o; cause = b }))

    pub update_error-fits : {b : ℕ} → a ≡ UpdateError b → c.update_errors + 3 ≤ hi
    unfolding place_of
    update_error-fits {b} e =
        omega (arith, fits_at (place_of c) (shares p m s o a) hi UpdateErrors h, ap length (update_error_share e), failed-length (record { name = name_of o; cause = b }))

    pub short-fits : a ≡ Update → from_of o + size_of o ≤ length s → size_of o ≤ 255 → c.updates + (3 + size_of o) ≤ hi
    unfolding place_of
    short-fits e l n =
        omega (arith, fits_at (place_of c) (shares p m s o a) hi Updates h, ap length (short_share e l n), short-length (record { name = name_of o; value = sent }), long l)

    pub long-fits : a ≡ Update → from_of o + size_of o ≤ length s → 255 < size_of o → c.long_updates + (4 + size_of o) ≤ hi
    unfolding place_of
    long-fits e l n =
        omega (arith, fits_at (place_of c) (shares p m s o a) hi LongUpdates h, ap length (long_share e l n), held-length (record { name = name_of o; value = sent }), long l)

-- ---- it is written at the place of its kind, and the other kinds' places stay

module _ (p : ℕ) (m s : List ℕ) (o : Op) (a : Answer) (c : Places) (out : List ℕ) where
  -- names, and what is silent, have no record
  pub none_put : (a ≡ Names) ⊎ (a ≡ Silent) → Filled order (place_of c) (shares p m s o a) out (place_of c) out
  unfolding fill order section answer_of record_of flat advance
  none_put (inl e) = rw e (filled c c (shares p m s o Names) out out (simp splice-nil) (simp add-zero))
  none_put (inr e) = rw e (filled c c (shares p m s o Silent) out out (simp splice-nil) (simp add-zero))

  module _ (end : ℕ) (out' : List ℕ) where
    abbrev Put : Places → Type 0
    Put r = Filled order (place_of c) (shares p m s o a) out (place_of r) out'

    pub value-put : {q : ℕ} → a ≡ Value q → Wrote out c.values (held_octets (record { name = name_of o; value = shown p m q })) end out'
        → Put (record { values = end; read_errors = c.read_errors; updates = c.updates; update_errors = c.update_errors; long_updates = c.long_updates })
    unfolding fill order section answer_of record_of flat advance place_of
    value-put {q} e w =
        rw e (filled c _ (shares p m s o (Value q)) out out' (w.1 ∙ simp (splice-nil, append-nil)) (rw w.0 (simp (add-zero, append-nil))))

    pub read_error-put : {b : ℕ} → a ≡ ReadError b → Wrote out c.read_errors (failed_octets (record { name = name_of o; cause = b })) end out'
        → Put (record { values = c.values; read_errors = end; updates = c.updates; update_errors = c.update_errors; long_updates = c.long_updates })
    unfolding fill order section answer_of record_of flat advance place_of
    read_error-put {b} e w =
        rw e (filled c _ (shares p m s o (ReadError b)) out out' (w.1 ∙ simp (splice-nil, append-nil)) (rw w.0 (simp (add-zero, append-nil))))

    pub update_error-put : {b : ℕ} → a ≡ UpdateError b → Wrote out c.update_errors (failed_octets (record { name = name_of o; cause = b })) end out'
        → Put (record { values = c.values; read_errors = c.read_errors; updates = c.updates; update_errors = end; long_updates = c.long_updates })
    unfolding fill order section answer_of record_of flat advance place_of
    update_error-put {b} e w =
        rw e (filled c _ (shares p m s o (UpdateError b)) out out' (w.1 ∙ simp (splice-nil, append-nil)) (rw w.0 (simp (add-zero, append-nil))))

    pub short-put : a ≡ Update → from_of o + size_of o ≤ length s → size_of o ≤ 255 → Wrote out c.updates (short_octets (record { name = name_of o; value = part s (from_of o) (size_of o) })) end out'
        → Put (record { values = c.values; read_errors = c.read_errors; updates = end; update_errors = c.update_errors; long_updates = c.long_updates })
    unfolding fill order section answer_of record_of flat advance place_of
    short-put e h n w =
        let b = le-leb (length (part s (from_of o) (size_of o))) 255 (omega (arith, length_part s (from_of o) (size_of o) h, n)) in
        rw e (filled c _ (shares p m s o Update) out out' (rw b (w.1 ∙ simp (splice-nil, append-nil))) (rw (w.0, b) (simp (add-zero, append-nil))))

    pub long-put : a ≡ Update → from_of o + size_of o ≤ length s → 255 < size_of o → Wrote out c.long_updates (held_octets (record { name = name_of o; value = part s (from_of o) (size_of o) })) end out'
        → Put (record { values = c.values; read_errors = c.read_errors; updates = c.updates; update_errors = c.update_errors; long_updates = end })
    unfolding fill order section answer_of record_of flat advance place_of
    long-put e h n w =
        let b = lt-leb (length (part s (from_of o) (size_of o))) 255 (omega (arith, length_part s (from_of o) (size_of o) h, n)) in
        rw e (filled c _ (shares p m s o Update) out out' (rw b (w.1 ∙ simp (splice-nil, append-nil))) (rw (w.0, b) (simp (add-zero, append-nil))))
