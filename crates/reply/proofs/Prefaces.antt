-- The pieces of a reply, one behind another: what stands before the records written at its place, and then the records of all
-- kinds, are all pieces.
use Prim.Native.Nat.{ℕ, ◌+◌, ◌≤◌}
use native.Mathlib.Nat.{zero-add}
use native.Mathlib.Omega.{arith}
use mathlib.Core.Path.{◌≡◌, refl, ◌∙◌}
use mathlib.Core.Bool.{Bool}
use mathlib.Core.List.{List}
use lib.ListN.{length, length-append}
use Rattle.meaning.specs.Octets.{flat}
use Rattle.meaning.specs.Reply.{Records}
use Rattle.octets.specs.Writing.{Wrote}
use Rattle.octets.specs.Filling.{fill, Apart, Adjoin, Filled}
use Rattle.octets.proofs.Fills.{Filling, apart_within, adjoin_apart, fill-joined, filling_start, filling_room, filling_fits, filling_step}
use Rattle.tally.specs.declared.Tally.{Tally}
use Rattle.tally.specs.Tallies.{grown, plus, tally_of, any_read, any_set, read_octets, set_octets}
use Rattle.section.specs.declared.Places.{Places}
use Rattle.section.specs.Kinds.{Kind, Values, ReadErrors, Updates, UpdateErrors, LongUpdates, order, section}
use Rattle.section.specs.Places.{place_of}
use Rattle.reply.specs.Sections.{opening, second_count, long_length, preface, piece, octets_of, span, begins}

-- ---- what stands before the records, by what the tally's functions tell

module _ (t : Tally) (b : Bool) where
  pub preface-values : (n : ℕ) → b ≡ any_read t → n ≡ read_octets t → preface t Values ≡ opening b 0x71 n t.values.count
  unfolding preface
  preface-values n e f = rw (e, f)

  pub preface-read_errors : b ≡ any_read t → preface t ReadErrors ≡ second_count b t.read_errors.count
  unfolding preface
  preface-read_errors e = rw e

  pub preface-updates : (n : ℕ) → b ≡ any_set t → n ≡ set_octets t → preface t Updates ≡ opening b 0x72 n t.updates.count
  unfolding preface
  preface-updates n e f = rw (e, f)

  pub preface-update_errors : b ≡ any_set t → preface t UpdateErrors ≡ second_count b t.update_errors.count
  unfolding preface
  preface-update_errors e = rw e

pub preface-long_updates : (t : Tally) → preface t LongUpdates ≡ long_length t.long_updates
unfolding preface
preface-long_updates t = refl

-- ---- five prefaces written one after another: where each begins, and what they come to

module _ (t : Tally) (at : ℕ) {e₁ : ℕ} (p₁ : e₁ ≡ at + length (preface t Values)) where
  pub begin₂ : e₁ + t.values.octets ≡ begins t at ReadErrors
  unfolding begins octets_of
  begin₂ = omega (arith, p₁)

  module _ {e₂ : ℕ} (p₂ : e₂ ≡ e₁ + t.values.octets + length (preface t ReadErrors)) where
    pub begin₃ : e₂ + t.read_errors.octets ≡ begins t at Updates
    unfolding begins octets_of
    begin₃ = omega (arith, p₁, p₂)

    module _ {e₃ : ℕ} (p₃ : e₃ ≡ e₂ + t.read_errors.octets + length (preface t Updates)) where
      pub begin₄ : e₃ + t.updates.octets ≡ begins t at UpdateErrors
      unfolding begins octets_of
      begin₄ = omega (arith, p₁, p₂, p₃)

      pub begin₅ : {e₄ : ℕ} → e₄ ≡ e₃ + t.updates.octets + length (preface t UpdateErrors) → e₄ + t.update_errors.octets ≡ begins t at LongUpdates
      unfolding begins octets_of
      begin₅ p₄ = omega (arith, p₁, p₂, p₃, p₄)

module _ (t : Tally) (at : ℕ) (out : List ℕ) {o₁ o₂ o₃ o₄ o₅ : List ℕ} {e₁ e₂ e₃ e₄ e₅ : ℕ}
    (w₁ : Wrote out at (preface t Values) e₁ o₁)
    (w₂ : Wrote o₁ (e₁ + t.values.octets) (preface t ReadErrors) e₂ o₂)
    (w₃ : Wrote o₂ (e₂ + t.read_errors.octets) (preface t Updates) e₃ o₃)
    (w₄ : Wrote o₃ (e₃ + t.updates.octets) (preface t UpdateErrors) e₄ o₄)
    (w₅ : Wrote o₄ (e₄ + t.update_errors.octets) (preface t LongUpdates) e₅ o₅) where
  abbrev ends : Places
  ends = record { values = e₁; read_errors = e₂; updates = e₃; update_errors = e₄; long_updates = e₅ }

  pub prefaces_filled : Filled order (begins t at) (preface t) out (place_of ends) o₅
  unfolding fill order begins place_of
  prefaces_filled =
      let b₂ = begin₂ t at w₁.0 in
      let b₃ = begin₃ t at w₁.0 w₂.0 in
      let b₄ = begin₄ t at w₁.0 w₂.0 w₃.0 in
      let b₅ = begin₅ t at w₁.0 w₂.0 w₃.0 w₄.0 in
      record { written = rw (w₅.1, w₄.1, w₃.1, w₂.1, w₁.1, b₂, b₃, b₄, b₅) refl; places = at_end b₂ b₃ b₄ b₅ }
    where
      at_end : e₁ + t.values.octets ≡ begins t at ReadErrors → e₂ + t.read_errors.octets ≡ begins t at Updates
          → e₃ + t.updates.octets ≡ begins t at UpdateErrors → e₄ + t.update_errors.octets ≡ begins t at LongUpdates
          → (k : Kind) → place_of ends k ≡ begins t at k + length (preface t k)
      at_end b₂ b₃ b₄ b₅ Values = w₁.0
      at_end b₂ b₃ b₄ b₅ ReadErrors = omega (arith, b₂, w₂.0)
      at_end b₂ b₃ b₄ b₅ Updates = omega (arith, b₃, w₃.0)
      at_end b₂ b₃ b₄ b₅ UpdateErrors = omega (arith, b₄, w₄.0)
      at_end b₂ b₃ b₄ b₅ LongUpdates = omega (arith, b₅, w₅.0)

-- ---- the whole

octets_are_lem : (r : Records) (k : Kind) → octets_of (tally_of r) k ≡ length (section k r)
unfolding octets_of tally_of plus grown section
octets_are_lem r Values = zero-add _
octets_are_lem r ReadErrors = zero-add _
octets_are_lem r Updates = zero-add _
octets_are_lem r UpdateErrors = zero-add _
octets_are_lem r LongUpdates = zero-add _

span_is : (r : Records) (k : Kind) → span (tally_of r) k ≡ length (piece r k)
span_is r k = omega (arith, octets_are_lem r k, length-append (preface (tally_of r) k) (section k r))

module _ (r : Records) (at : ℕ) (out : List ℕ) (h : at + length (flat (piece r) order) ≤ length out) where
  abbrev sections : Kind → List ℕ
  sections k = section k r

  adjoin : Adjoin at order (begins (tally_of r) at) (piece r)
  unfolding Adjoin order begins
  adjoin =
      let a = span_is r Values in
      let b = span_is r ReadErrors in
      let c = span_is r Updates in
      let d = span_is r UpdateErrors in
      (refl, (omega (arith, a), (omega (arith, a, b), (omega (arith, a, b, c), (omega (arith, a, b, c, d), tt)))))

  whole : Filling order (begins (tally_of r) at) (piece r) out (begins (tally_of r) at) (piece r) out
  whole =
      filling_start order (begins (tally_of r) at) (piece r) out
      (apart_within at 0 _ _ order (begins (tally_of r) at) (piece r) (omega arith) h (adjoin_apart at order (begins (tally_of r) at) (piece r) adjoin))

  pub prefaces_fit : Apart 0 order (begins (tally_of r) at) (preface (tally_of r)) (length out)
  prefaces_fit = filling_fits whole (preface (tally_of r)) sections (λ k. refl)

  module _ (c : Places) (out₁ : List ℕ) (w : Filled order (begins (tally_of r) at) (preface (tally_of r)) out (place_of c) out₁) where
    behind_prefaces : Filling order (begins (tally_of r) at) (piece r) out (place_of c) sections out₁
    behind_prefaces = filling_step whole (preface (tally_of r)) sections (λ k. refl) w

    pub sections_fit : Apart 0 order (place_of c) sections (length out₁)
    sections_fit = filling_room behind_prefaces

    pub pieces_written : (out₂ : List ℕ) → out₂ ≡ fill order (place_of c) sections out₁ → Wrote out at (flat (piece r) order) (at + length (flat (piece r) order)) out₂
    pieces_written out₂ e = (refl, e ∙ behind_prefaces.leads ∙ fill-joined at order (begins (tally_of r) at) (piece r) out adjoin h)
