-- Octets behind a length: the number that it spells, one law for each way in which `sized_at` returns, and what is known of what it found.
use Prim.Native.Nat.{ℕ, ◌+◌, ◌-◌, ◌≤◌, ◌<◌}
use native.Mathlib.Decide.{dec_le}
use native.Mathlib.Omega.{arith}
use mathlib.Core.Path.{◌≡◌, refl, sym, ap, ap₂, ◌∙◌}
use mathlib.Core.List.{List, [], ◌∷◌}
use mathlib.Core.Option.{none, some}
use lib.ListN.{length, take}
use Rattle.std.specs.Prelude.{Option as Returned, Some, None}
use Rattle.meaning.specs.Octets.{octet, at16, part}
use Rattle.meaning.specs.Block.{as_number_from, as_number}
use Rattle.meaning.specs.Capture.{sized}
use Rattle.meaning.proofs.Lists.{length_part, octet-part}
use Rattle.meaning.proofs.Values.{number_one}
use Rattle.meaning.proofs.Fronts.{sized_there, sized_cut}
use Rattle.contents.specs.declared.Span.{Span}
use Rattle.contents.specs.Spans.{span, octets_of, standing, spanned}
use Rattle.contents.proofs.Between.{between, part-at16, between-length, between-take, between-drop, between-part}

-- ---- the number that none, one or two octets spell

number_two : (v : List ℕ) → length v ≡ 2 → as_number v ≡ at16 v 0
unfolding as_number as_number_from at16
number_two [] h = omega arith
number_two (a ∷ []) h = absurd (omega (arith, h))
number_two (a ∷ b ∷ []) h = omega arith
number_two (a ∷ b ∷ c ∷ v) h = absurd (omega (arith, h))

module _ (s : List ℕ) (at w : ℕ) where
  pub spells_none : w ≡ 0 → 0 ≡ as_number (part s at w)
  unfolding as_number as_number_from part
  spells_none e = rw e

  pub spells_one : w ≡ 1 → at + 1 ≤ length s → octet s at ≡ as_number (part s at w)
  spells_one e h = rw e (sym (number_one (part s at 1) (length_part s at 1 h) ∙ octet-part s at))

  pub spells_two : w ≡ 2 → at + 2 ≤ length s → at16 s at ≡ as_number (part s at w)
  spells_two e h = rw e (sym (number_two (part s at 2) (length_part s at 2 h) ∙ part-at16 s at 2 (omega arith)))

-- ---- octets behind a length, with those behind them

pub sized_nothing : (w : ℕ) → 1 ≤ w → sized w [] ≡ none
sized_nothing w h = sized_cut w (as_number (take w [])) [] refl (omega arith)

-- where a span and the octets behind it up to a place stand
pub stands : (s : List ℕ) (p : Span) (to : ℕ) → p.from ≤ p.to → p.to ≤ to → to ≤ length s → standing to (octets_of s p) (between s p.to to) ≡ p
unfolding standing octets_of
stands s p to f b l =
    rw (between-length s p.to to l b, between-length s p.from p.to (omega arith) f)
    (ap₂ span (omega arith) (omega arith))

module _ (s : List ℕ) (at to w : ℕ) (h : at ≤ to) (l : to ≤ length s) where
  long : length (between s at to) ≡ to - at
  long = between-length s at to l h

  length_cut : to - at < w → sized w (between s at to) ≡ none
  length_cut b = sized_cut w _ (between s at to) refl (omega (arith, long))

  module _ (n : ℕ) (b : at + w ≤ to) (e : n ≡ as_number (part s at w)) where
    spelt : as_number (take w (between s at to)) ≡ n
    spelt = ap as_number (between-take s at to l w b) ∙ sym e

    value_cut : to - (at + w) < n → sized w (between s at to) ≡ none
    value_cut c = sized_cut w n (between s at to) spelt (omega (arith, long))

    value_there : n ≤ to - (at + w) → sized w (between s at to) ≡ some (octets_of s (span (at + w) (at + w + n)), between s (at + w + n) to)
    unfolding octets_of
    value_there c =
        let d : at + (w + n) ≡ at + w + n = omega arith in
        let z : at + w + n - (at + w) ≡ n = omega arith in
        rw (sized_there w n (between s at to) spelt (omega (arith, long)), between-part s at to l w n (omega arith), between-drop s at to l (w + n) (omega arith), d, z)

-- ---- each way in which `sized_at` returns

module _ (s : List ℕ) (at to w : ℕ) (h : at ≤ to) (l : to ≤ length s) where
  pub no_length : to - at < w → None ≡ spanned to (sized w (between s at to))
  unfolding spanned
  no_length b = rw (length_cut s at to w h l b)

  pub no_value : (n : ℕ) → at + w ≤ to → n ≡ as_number (part s at w) → to - (at + w) < n → None ≡ spanned to (sized w (between s at to))
  unfolding spanned
  no_value n b e c = rw (value_cut s at to w h l n b e c)

  pub all_there : (n : ℕ) → at + w ≤ to → n ≡ as_number (part s at w) → n ≤ to - (at + w) → Some (span (at + w) (at + w + n)) ≡ spanned to (sized w (between s at to))
  unfolding spanned
  all_there n b e c = rw (value_there s at to w h l n b e c, stands s (span (at + w) (at + w + n)) to (omega arith) (omega arith) l)

-- ---- what is known of what `sized_at` found

-- octets behind a length of w octets are found from a place up to another: all that stands there, or that they are cut short
abbrev pub Found : List ℕ → ℕ → ℕ → ℕ → Returned Span → Type 0
Found s at to w None = sized w (between s at to) ≡ none
Found s at to w (Some p) = (sized w (between s at to) ≡ some (octets_of s p, between s p.to to)) × (p.from ≡ at + w) × (p.from ≤ p.to) × (p.to ≤ to)

module _ (s : List ℕ) (at to w : ℕ) (h : at ≤ to) (l : to ≤ length s) where
  pub found : (r : Returned Span) → r ≡ spanned to (sized w (between s at to)) → Found s at to w r
  found r e = rw e (go (dec_le (at + w) to))
    where
      n : ℕ
      n = as_number (part s at w)

      there : at + w ≤ to → Dec (n ≤ to - (at + w)) → Found s at to w (spanned to (sized w (between s at to)))
      there b (yes c) = rw (← all_there s at to w h l n b refl c) (value_there s at to w h l n b refl c, omega arith, omega arith, omega arith)
      there b (no c) = rw (← no_value s at to w h l n b refl (omega arith)) (value_cut s at to w h l n b refl (omega arith))

      go : Dec (at + w ≤ to) → Found s at to w (spanned to (sized w (between s at to)))
      go (yes b) = there b (dec_le n (to - (at + w)))
      go (no b) = rw (← no_length s at to w h l (omega arith)) (length_cut s at to w h l (omega arith))
