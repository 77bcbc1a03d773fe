-- A reply put together from the pieces of its kinds, and what a tally that fits says of them.
use Prim.Native.Nat.{ℕ, ◌+◌, ◌≤◌, ◌<◌}
use native.Mathlib.Omega.{arith}
use mathlib.Core.Path.{◌≡◌, refl, sym, ap, ◌∙◌}
use mathlib.Core.Logic.{◌≢◌}
use mathlib.Core.Bool.{true, ◌||◌, cond}
use mathlib.Core.List.{List, [], ◌∷◌, ◌++◌, append-nil, append_assoc}
use lib.Dec.{eqb}
use lib.ListN.{length}
use borrow.Author.Tests.{ne_eqb, leb-true}
use Rattle.meaning.specs.Octets.{be16, flat, nonempty}
use Rattle.meaning.specs.Profile.{names_length}
use Rattle.meaning.specs.Operation.{parse, or_none}
use Rattle.meaning.specs.Reply.{Held, Failed, Records, held_octets, short_octets, failed_octets, long_octets, read_contents, set_contents, all_names, element, any_read, any_set, complete}
use Rattle.meaning.proofs.Tests.{every_at}
use Rattle.meaning.proofs.Records.{Fits, fits_opened}
use Rattle.octets.specs.Writing.{Wrote}
use Rattle.meaning.proofs.Contents.{names-length}
use Rattle.records.proofs.Pieces.{Left, left_start, left_as, first_fits, left_next}
use Rattle.tally.specs.declared.Tally.{Tally}
use Rattle.tally.specs.Tallies as tallies
use Rattle.tally.specs.Tallies.{read_octets, set_octets, element_length, reply_length, tally_fits}
use Rattle.tally.proofs.Lengths.{tally_fits_lem, any_read_lem, any_set_lem, read-octets, set-octets, values-count, read_errors-count, updates-count, update_errors-count, long_updates-count, long_updates-octets}
use Rattle.section.specs.Kinds.{Values, ReadErrors, Updates, UpdateErrors, LongUpdates, order, section, records_of}
use Rattle.reply.specs.Sections.{opening, second_count, long_length, preface, piece, Fitting}

-- ---- what is asked of a reply

pub fits_of : (p : ℕ) (m list : List ℕ) (t : Tally) (n : ℕ) → Fitting p m list t n → Fits p n (records_of p m list)
fits_of p m list t n f = fits_opened p n m (or_none (parse p list)) (sym (tally_fits_lem p n m (or_none (parse p list))) ∙ rw f.0 at f.2)

-- ---- a tally that fits has small numbers

module _ (p n : ℕ) (t : Tally) (f : tally_fits (reply_length p t) n t ≡ true) where
  in_limit_lem : reply_length p t ≤ 4096
  unfolding tally_fits
  in_limit_lem = leb-true _ _ (every_at _ 1 f)

  pub few_values : t.values.count ≤ 255
  unfolding tally_fits
  few_values = leb-true _ _ (every_at _ 2 f)

  pub few_read_errors : t.read_errors.count ≤ 255
  unfolding tally_fits
  few_read_errors = leb-true _ _ (every_at _ 3 f)

  pub few_updates : t.updates.count ≤ 255
  unfolding tally_fits
  few_updates = leb-true _ _ (every_at _ 4 f)

  pub few_update_errors : t.update_errors.count ≤ 255
  unfolding tally_fits
  few_update_errors = leb-true _ _ (every_at _ 5 f)

  pub read_small : tallies.any_read t ≡ true → read_octets t < 65536
  unfolding reply_length element_length
  read_small a =
      let l : element_length (tallies.any_read t) (read_octets t) ≡ 3 + read_octets t = rw a refl in
      omega (arith, in_limit_lem, l)

  pub set-small : tallies.any_set t ≡ true → set_octets t < 65536
  unfolding reply_length element_length
  set-small a =
      let l : element_length (tallies.any_set t) (set_octets t) ≡ 3 + set_octets t = rw a refl in
      omega (arith, in_limit_lem, l)

  pub long-small : t.long_updates.count ≢ 0 → t.long_updates.octets < 65536
  unfolding set_octets tallies.long_octets
  long-small h =
      let l : tallies.long_octets t.long_updates ≡ 2 + t.long_updates.octets = rw (ne_eqb _ 0 h) refl in
      omega (arith, set-small (unfold tallies.any_set in rw (ne_eqb (t.updates.count + t.update_errors.count + t.long_updates.count) 0 (λ e. h (omega (arith, e)))) refl), l)

-- ---- the elements by their pieces

pub names_parts : (p : ℕ) → element 0x70 true (all_names p) ≡ (0x70 ∷ be16 (names_length p)) ++ all_names p
unfolding element
names_parts p = rw (names-length p)

long_parts : (l : List Held) → long_octets l ≡ cond (eqb (length l) 0) [] (be16 (length (flat held_octets l))) ++ flat held_octets l
unfolding long_octets flat
long_parts [] = refl
long_parts (h ∷ l) = rw (ne_eqb (length (h ∷ l)) 0 (λ e. absurd (omega (arith, e)))) refl

module _ (r : Records) where
  read_pieces : element 0x71 (any_read r) (read_contents r) ≡ piece r Values ++ piece r ReadErrors
  unfolding element read_contents section preface opening second_count be16 flat
  read_pieces = rw (any_read_lem r, read-octets r, values-count r, read_errors-count r) (go r.values r.read_errors)
    where
      go : (v : List Held) (e : List Failed)
          → let c = length v ∷ flat held_octets v ++ (length e ∷ flat failed_octets e) in
          let b = nonempty v || nonempty e in
          element 0x71 b c ≡ (opening b 0x71 (length c) (length v) ++ flat held_octets v) ++ (second_count b (length e) ++ flat failed_octets e)
      go [] [] = refl
      go [] (x ∷ e) = refl
      go (h ∷ v) e = refl

  set_pieces : element 0x72 (any_set r) (set_contents r) ≡ piece r Updates ++ (piece r UpdateErrors ++ piece r LongUpdates)
  unfolding element set_contents section preface opening second_count long_length be16 flat
  set_pieces =
      rw (any_set_lem r, set-octets r, updates-count r, update_errors-count r, long_updates-count r, long_updates-octets r)
      (go r.updates r.update_errors r.long_updates)
    where
      go : (u : List Held) (f : List Failed) (l : List Held)
          → let c = length u ∷ flat short_octets u ++ (length f ∷ flat failed_octets f ++ long_octets l) in
          let b = nonempty u || (nonempty f || nonempty l) in
          element 0x72 b c
          ≡ (opening b 0x72 (length c) (length u) ++ flat short_octets u)
          ++ ((second_count b (length f) ++ flat failed_octets f)
          ++ (cond (eqb (length l) 0) [] (be16 (length (flat held_octets l))) ++ flat held_octets l))
      go [] [] [] = refl
      go [] [] (x ∷ l) = rw (long_parts (x ∷ l)) refl
      go [] (x ∷ f) l = rw (long_parts l) refl
      go (h ∷ u) f l = rw (long_parts l) refl

  abbrev pub names : (p : ℕ) → List ℕ
  names p = element 0x70 r.capabilities (all_names p)

  -- all pieces
  abbrev pub pieces : List ℕ
  pieces = flat (piece r) order

  whole_pieces : (p : ℕ) → complete p r ≡ (2 ∷ []) ++ (names p ++ pieces)
  unfolding complete flat order
  whole_pieces p =
      rw (read_pieces, set_pieces, append-nil (piece r LongUpdates))
      (ap (λ (w : List ℕ). 2 ∷ names p ++ w) (append_assoc (piece r Values) (piece r ReadErrors) (piece r Updates ++ (piece r UpdateErrors ++ piece r LongUpdates))))

module _ (p : ℕ) (r : Records) (out : List ℕ) (room : length (complete p r) ≤ length out) where
  whole_left : Left out 0 (complete p r) out 0 ((2 ∷ []) ++ (names r p ++ pieces r))
  whole_left = left_as (whole_pieces r p) (left_start out 0 (complete p r) (omega (arith, room)))

  pub type_fits : 0 + 1 ≤ length out
  type_fits = first_fits (2 ∷ []) (names r p ++ pieces r) whole_left

  module _ {e₁ : ℕ} {o₁ : List ℕ} (w₁ : Wrote out 0 (2 ∷ []) e₁ o₁) where
    after_type : Left out 0 (complete p r) o₁ e₁ (names r p ++ pieces r)
    after_type = left_next (2 ∷ []) (names r p ++ pieces r) whole_left w₁

    pub names_fit : e₁ + length (names r p) ≤ length o₁
    names_fit = first_fits (names r p) (pieces r) after_type

    pub after-names : {e₂ : ℕ} {o₂ : List ℕ} → Wrote o₁ e₁ (names r p) e₂ o₂ → Left out 0 (complete p r) o₂ e₂ (pieces r)
    after-names w₂ = left_next (names r p) (pieces r) after_type w₂
