-- Names and long updates that are opened agree with those that are read.
use Prim.Native.Nat.{ℕ, zero, suc, ◌%◌, ◌≤◌, ◌<◌}
use native.Mathlib.Decide.{ℕ_discrete}
use native.Mathlib.Omega.{arith}
use mathlib.Core.Path.{◌≡◌, refl, sym, ap, subst, ◌∙◌}
use mathlib.Core.Logic.{◌⊎◌, inl, inr}
use mathlib.Core.Bool.{true}
use mathlib.Core.List.{List, [], ◌∷◌}
use mathlib.Core.Option.{Option, none, some}
use lib.ListN.{length}
use lib.Dec.{leb}
use borrow.Author.Tests.{eq-eqb, ne_eqb, le-leb}
use Rattle.std.specs.Prelude.{Option as Returned, Some, None}
use Rattle.meaning.specs.Octets.{at16}
use Rattle.meaning.specs.Reply.{Held}
use Rattle.meaning.specs.Capture.{then_read, sized, front_name, front_held, until_end_in, until_end, exactly, longs_in}
use Rattle.contents.specs.Spans.{span, octets_of, spanned, is_whole}
use Rattle.contents.specs.declared.Span.{Span}
use Rattle.contents.proofs.Between.{between, between_none, between_front}
use Rattle.contents.proofs.Lengths.{Found, found, stands}
use Rattle.capture.specs.Opening.{longs_of, longs_at}
use Rattle.capture.proofs.OneKind.{Whole}

-- ---- names: an even number of octets

abbrev pub Even : List ℕ → Option (List ℕ) → Type 0
Even c o = ((length c % 2 ≡ 0) × (ns : List ℕ) × (o ≡ some ns)) ⊎ ((length c % 2 ≡ 1) × (o ≡ none))

even_more : (x y n : ℕ) (c : List ℕ) (o : Option (List ℕ)) → Even c o → Even (x ∷ y ∷ c) (then_read o (λ ns. some (n ∷ ns)))
unfolding then_read
even_more x y n c o (inl h) = inl (omega (arith, h.0), n ∷ h.1, rw h.2)
even_more x y n c o (inr h) = inr (omega (arith, h.0), rw h.1)

even_in : (n : ℕ) (c : List ℕ) → length c ≤ n → Even c (until_end_in front_name n c)
unfolding until_end_in front_name then_read
even_in zero [] h = inl (refl, [], refl)
even_in zero (x ∷ c) h = absurd (omega arith)
even_in (suc n) [] h = inl (refl, [], refl)
even_in (suc n) (x ∷ []) h = inr (refl, refl)
even_in (suc n) (x ∷ y ∷ c) h =
    let l : leb 2 (suc (suc (length c))) ≡ true = le-leb 2 (suc (suc (length c))) (omega arith) in
    rw l (even_more x y (at16 (x ∷ y ∷ c) 0) c (until_end_in front_name n c) (even_in n c (omega arith)))

pub names_even : (c : List ℕ) → Even c (until_end front_name c)
unfolding until_end
names_even c = even_in (length c) c (omega arith)

-- ---- long updates behind the errors of element 72

pub record LongsOpen (s : List ℕ) (at to : ℕ) (t : List ℕ) : Type 0 where
  pub longs : Span
  pub ls : List Held
  pub opened : longs_at s at to ≡ Some longs
  pub read : longs_in t ≡ some ls
  pub whole : Whole (front_held 2) s longs ls

abbrev pub LongsOpens : List ℕ → ℕ → ℕ → List ℕ → Type 0
LongsOpens s at to t = ((longs_at s at to ≡ None) × (longs_in t ≡ none)) ⊎ LongsOpen s at to t

-- nothing stands there
longs_none : (s : List ℕ) (to : ℕ) → to ≤ length s → LongsOpens s to to []
unfolding longs_at longs_in octets_of until_end until_end_in
longs_none s to l =
    inr
    (record {
      longs = span to to;
      ls = [];
      opened = rw (eq-eqb to to refl);
      read = refl;
      whole = record { ordered = omega arith; inside = l; read = rw (between_none s to to (omega arith)) };
    })

module _ (s : List ℕ) (at to : ℕ) (x : ℕ) (r : List ℕ) (h : at < to) (l : to ≤ length s) (e : between s at to ≡ x ∷ r) where
  opened_is : longs_at s at to ≡ longs_of s to (spanned to (sized 2 (x ∷ r)))
  unfolding longs_at
  opened_is = rw (ne_eqb at to (λ z. omega (arith, z, h)), e)

  module _ (p : Span) (f : Found s at to 2 (Some p)) where
    sized_is : sized 2 (x ∷ r) ≡ some (octets_of s p, between s p.to to)
    sized_is = sym (ap (sized 2) e) ∙ f.0

    opened_by : longs_at s at to ≡ longs_of s to (Some p)
    unfolding spanned
    opened_by = opened_is ∙ ap (longs_of s to) (ap (spanned to) sized_is ∙ ap Some (stands s p to f.2 f.3 l))

    read_by : longs_in (x ∷ r) ≡ then_read (exactly (octets_of s p, between s p.to to)) (until_end (front_held 2))
    unfolding longs_in then_read
    read_by = rw sized_is

    -- octets of a length that is right, by whether they are whole values
    by_whole : p.to ≡ to → (o : Option (List Held)) → until_end (front_held 2) (octets_of s p) ≡ o → LongsOpens s at to (x ∷ r)
    unfolding longs_of then_read exactly is_whole
    by_whole z none u = inl (opened_by ∙ rw (eq-eqb p.to to z, u), read_by ∙ rw (between_none s p.to to (omega arith), u))
    by_whole z (some ls) u =
        inr
        (record {
          longs = p;
          ls = ls;
          opened = opened_by ∙ rw (eq-eqb p.to to z, u);
          read = read_by ∙ rw (between_none s p.to to (omega arith), u);
          whole = record { ordered = f.2; inside = omega (arith, f.3, l); read = u };
        })

    -- octets left over
    left_over : p.to < to → LongsOpens s at to (x ∷ r)
    unfolding longs_of then_read exactly
    left_over z = inl (opened_by ∙ rw (ne_eqb p.to to (λ y. omega (arith, y, z))), read_by ∙ rw (between_front s p.to to l z))

  by_length : (o : Returned Span) → Found s at to 2 o → LongsOpens s at to (x ∷ r)
  unfolding longs_of spanned longs_in then_read
  by_length None f =
      let g : sized 2 (x ∷ r) ≡ none = sym (ap (sized 2) e) ∙ f in
      inl (opened_is ∙ rw g, rw g)
  by_length (Some p) f = go (ℕ_discrete p.to to)
    where
      go : Dec (p.to ≡ to) → LongsOpens s at to (x ∷ r)
      go (yes z) = by_whole p f z (until_end (front_held 2) (octets_of s p)) refl
      go (no z) = left_over p f (omega (arith, f.3, z))

  longs_some : LongsOpens s at to (x ∷ r)
  longs_some = by_length (spanned to (sized 2 (between s at to))) (found s at to 2 (omega arith) l _ refl)

-- the octets t from a place up to another
pub longs_opens : (s : List ℕ) (at to : ℕ) (t : List ℕ) → at ≤ to → to ≤ length s → between s at to ≡ t → LongsOpens s at to t
longs_opens s at to [] h l e = subst (λ (i : ℕ). LongsOpens s i to []) (same (ℕ_discrete to at)) (longs_none s to l)
  where
    same : Dec (to ≡ at) → to ≡ at
    same (yes z) = z
    same (no z) = absurd (let n = ap length (sym (between_front s at to l (omega (arith, h, z))) ∙ e) in omega (arith, n))
longs_opens s at to (x ∷ r) h l e = longs_some s at to x r (go (ℕ_discrete at to)) l e
  where
    go : Dec (at ≡ to) → at < to
    go (yes z) = absurd (let n = ap length (sym e ∙ between_none s at to (omega arith)) in omega (arith, n))
    go (no z) = omega (arith, h, z)
