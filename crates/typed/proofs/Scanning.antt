-- Octets of a line scanned: what is left to take from a place on is what was to be taken at the start; a law for each turn and exit.
use Prim.Native.Nat.{ℕ, ◌+◌, ◌≤◌, ◌<◌}
use native.Mathlib.Numerals.{add-one}
use native.Mathlib.Omega.{arith}
use mathlib.Core.Path.{◌≡◌, refl, sym, ap, ◌∙◌}
use mathlib.Core.Bool.{true, false}
use mathlib.Core.List.{List, [], ◌∷◌}
use lib.ListN.{length, get_or, drop, drop_of_length-le}
use lib.Seq.{drop-cons}
use borrow.Author.Tests.{ne_eqb}
use Rattle.typed.specs.declared.Line.{Line}
use Rattle.typed.specs.Forms.{Typed, typed_all, typed_in, Keeps, Takes}
use Rattle.typed.specs.Scanning.{before_feed, has_feed, behind_feed, Goes, Scans}

-- ---- the octet at a place

module _ (held : List ℕ) (at : ℕ) (h : at < length held) where
  here : drop at held ≡ get_or held at 0 ∷ drop (at + 1) held
  here = rw add-one (drop-cons held at 0 h)

  module _ (e : get_or held at 0 ≡ 10) where
    before_here : before_feed (drop at held) ≡ []
    unfolding before_feed
    before_here = rw (here, e)

    ends_here : has_feed (drop at held) ≡ true
    unfolding has_feed
    ends_here = rw (here, e)

    behind_here : behind_feed (drop at held) ≡ drop (at + 1) held
    unfolding behind_feed
    behind_here = rw (here, e)

  module _ (f : get_or held at 0 ≡ 10 → ⊥) where
    before_later : before_feed (drop at held) ≡ get_or held at 0 ∷ before_feed (drop (at + 1) held)
    unfolding before_feed
    before_later = rw (here, ne_eqb (get_or held at 0) 10 f)

    ends_later : has_feed (drop at held) ≡ has_feed (drop (at + 1) held)
    unfolding has_feed
    ends_later = rw (here, ne_eqb (get_or held at 0) 10 f)

    behind_later : behind_feed (drop at held) ≡ behind_feed (drop (at + 1) held)
    unfolding behind_feed
    behind_later = rw (here, ne_eqb (get_or held at 0) 10 f)

-- ---- a line goes on

pub goes_start : (room : List ℕ) (l : Line) (held : List ℕ) (from : ℕ) → Keeps room l → from ≤ length held → Goes room l held from room l from
goes_start room l held from k h =
    record { keeps = k; onward = omega arith; inside = h; typed_is = refl; ended_is = refl; rest_is = refl; place = refl }

module _ {room₀ : List ℕ} {l₀ : Line} {held : List ℕ} {from : ℕ} {room : List ℕ} {l : Line} {at : ℕ} (s : Goes room₀ l₀ held from room l at) where
  pub goes_one : {room' : List ℕ} {r : Line} → at < length held → (get_or held at 0 ≡ 10 → ⊥) → Takes room l (get_or held at 0) r room' → Goes room₀ l₀ held from room' r (at + 1)
  unfolding typed_all
  goes_one h f t =
      record {
        keeps = t.keeps;
        onward = omega (arith, s.onward);
        inside = omega arith;
        typed_is =
            ap (λ (x : Typed). typed_all x (before_feed (drop (at + 1) held))) t.typed_is
            ∙ ap (typed_all (typed_in room l)) (sym (before_later held at h f))
            ∙ s.typed_is;
        ended_is = sym (ends_later held at h f) ∙ s.ended_is;
        rest_is = sym (behind_later held at h f) ∙ s.rest_is;
        place = omega (arith, s.place, ap length (before_later held at h f));
      }

  -- and further
  pub goes_far : {room' : List ℕ} {r : Line} {at' : ℕ} → Goes room l held at room' r at' → Goes room₀ l₀ held from room' r at'
  goes_far t =
      record {
        keeps = t.keeps;
        onward = omega (arith, s.onward, t.onward);
        inside = t.inside;
        typed_is = t.typed_is ∙ s.typed_is;
        ended_is = t.ended_is ∙ s.ended_is;
        rest_is = t.rest_is ∙ s.rest_is;
        place = t.place ∙ s.place;
      }

  -- ---- to its end

  pub scan_feed : at < length held → get_or held at 0 ≡ 10 → Scans room₀ l₀ held from (record { line = l; at = at + 1; ended = true }) room
  unfolding typed_all
  scan_feed h e =
      record {
        keeps = s.keeps;
        typed_is = rw (before_here held at h e) at s.typed_is;
        ended_is = sym (ends_here held at h e) ∙ s.ended_is;
        rest_is = sym (behind_here held at h e) ∙ s.rest_is;
        place = omega (arith, s.place, ap length (before_here held at h e));
        inside = omega arith;
      }

  pub scan_end : length held ≤ at → Scans room₀ l₀ held from (record { line = l; at = at; ended = false }) room
  unfolding typed_all before_feed has_feed behind_feed
  scan_end h =
      let e = drop_of_length-le held h in
      record {
        keeps = s.keeps;
        typed_is = rw e at s.typed_is;
        ended_is = rw e at s.ended_is;
        rest_is = e ∙ rw e at s.rest_is;
        place = omega (arith, s.place, ap (λ (x : List ℕ). length (before_feed x)) e);
        inside = s.inside;
      }
