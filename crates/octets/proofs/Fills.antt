-- Regions of a room filled: what is left of each, written at its place, is the whole.
use Prim.Native.Nat.{ℕ, ◌+◌, ◌≤◌}
use native.Mathlib.Omega.{arith}
use mathlib.Core.Path.{◌≡◌, refl, sym, ap, ◌∙◌}
use mathlib.Core.List.{List, [], ◌∷◌, ◌++◌}
use lib.ListN.{length, length-append}
use Rattle.meaning.specs.Octets.{splice, flat}
use Rattle.octets.specs.Filling.{fill, Apart, Adjoin, Filled}
use Rattle.meaning.proofs.Lists.{splice-length}
use Rattle.octets.proofs.Splices.{splice-nil, splice-splice, splice_comm}

module _ {K : Type 0} where
  -- ---- places and octets said in another way

  pub fill-same : (ks : List K) {at at' : K → ℕ} {w w' : K → List ℕ} (out : List ℕ) → ((k : K) → at k ≡ at' k) → ((k : K) → w k ≡ w' k)
      → fill ks at w out ≡ fill ks at' w' out
  unfolding fill
  fill-same [] out e f = refl
  fill-same (k ∷ ks) out e f = rw (e k, f k) (fill-same ks _ e f)

  pub apart_same : (lo hi : ℕ) (ks : List K) {at at' : K → ℕ} {w w' : K → List ℕ} → ((k : K) → at k ≡ at' k) → ((k : K) → w k ≡ w' k)
      → Apart lo ks at w hi → Apart lo ks at' w' hi
  unfolding Apart
  apart_same lo hi [] e f a = a
  apart_same lo hi (k ∷ ks) {at = at} {at' = at'} {w = w} {w' = w'} e f a = (rw (e k) at a.0, apart_same (at' k + length (w' k)) hi ks e f (rw (e k, f k) at a.1))

  pub fill_none : (ks : List K) (at : K → ℕ) {w : K → List ℕ} (out : List ℕ) → ((k : K) → w k ≡ []) → fill ks at w out ≡ out
  unfolding fill
  fill_none [] at out e = refl
  fill_none (k ∷ ks) at out e = rw (e k, splice-nil out (at k)) (fill_none ks at out e)

  -- ---- regions that lie apart

  apart_le : (lo hi : ℕ) (ks : List K) (at : K → ℕ) (w : K → List ℕ) → Apart lo ks at w hi → lo ≤ hi
  unfolding Apart
  apart_le lo hi [] at w a = a
  apart_le lo hi (k ∷ ks) at w a = omega (arith, a.0, apart_le (at k + length (w k)) hi ks at w a.1)

  pub apart_within : (lo lo' hi hi' : ℕ) (ks : List K) (at : K → ℕ) (w : K → List ℕ) → lo' ≤ lo → hi ≤ hi' → Apart lo ks at w hi → Apart lo' ks at w hi'
  unfolding Apart
  apart_within lo lo' hi hi' [] at w l h a = omega (arith, a)
  apart_within lo lo' hi hi' (k ∷ ks) at w l h a = (omega (arith, a.0), apart_within (at k + length (w k)) _ hi hi' ks at w (omega arith) h a.1)

  pub fill-length : (lo hi : ℕ) (ks : List K) (at : K → ℕ) (w : K → List ℕ) (out : List ℕ) → Apart lo ks at w hi → hi ≤ length out
      → length (fill ks at w out) ≡ length out
  unfolding fill Apart
  fill-length lo hi [] at w out a h = refl
  fill-length lo hi (k ∷ ks) at w out a h =
      let e = splice-length out (at k) (w k) (omega (arith, apart_le _ hi ks at w a.1)) in
      fill-length (at k + length (w k)) hi ks at w (splice out (at k) (w k)) a.1 (omega (arith, e)) ∙ e

  -- a write before all the regions, first or last
  fill_past : (lo hi : ℕ) (ks : List K) (at : K → ℕ) (w : K → List ℕ) (out v : List ℕ) (i : ℕ) → i + length v ≤ lo → Apart lo ks at w hi → hi ≤ length out
      → fill ks at w (splice out i v) ≡ splice (fill ks at w out) i v
  unfolding fill Apart
  fill_past lo hi [] at w out v i l a h = refl
  fill_past lo hi (k ∷ ks) at w out v i l a h =
      let n : at k + length (w k) ≤ length out = omega (arith, apart_le _ hi ks at w a.1) in
      ap (fill ks at w) (splice_comm out v (w k) i (at k) (omega (arith, a.0)) n)
      ∙ fill_past (at k + length (w k)) hi ks at w (splice out (at k) (w k)) v i (omega (arith, a.0)) a.1 (omega (arith, splice-length out (at k) (w k) n))

  -- ---- one octet string behind another in every region

  module _ (at : K → ℕ) (a b : K → List ℕ) where
    abbrev pub both : K → List ℕ
    both k = a k ++ b k

    abbrev pub behind : K → ℕ
    behind k = at k + length (a k)

    pub apart_first : (lo hi : ℕ) (ks : List K) → Apart lo ks at both hi → Apart lo ks at a hi
    unfolding Apart
    apart_first lo hi [] p = p
    apart_first lo hi (k ∷ ks) p = (p.0, apart_within _ _ hi hi ks at a (omega (arith, length-append (a k) (b k))) (omega arith) (apart_first (at k + length (both k)) hi ks p.1))

    pub apart_next : (lo hi : ℕ) (ks : List K) → Apart lo ks at both hi → Apart lo ks behind b hi
    unfolding Apart
    apart_next lo hi [] p = p
    apart_next lo hi (k ∷ ks) p = (omega (arith, p.0), apart_within _ _ hi hi ks behind b (omega (arith, length-append (a k) (b k))) (omega arith) (apart_next (at k + length (both k)) hi ks p.1))

    -- filled twice is filled once with both
    pub fill-fill : (lo hi : ℕ) (ks : List K) (out : List ℕ) → Apart lo ks at both hi → hi ≤ length out
        → fill ks behind b (fill ks at a out) ≡ fill ks at both out
    unfolding fill Apart
    fill-fill lo hi [] out p h = refl
    fill-fill lo hi (k ∷ ks) out p h =
        let n : at k + length (both k) ≤ length out = omega (arith, apart_le _ hi ks at both p.1) in
        let m : at k + length (a k) ≤ length out = omega (arith, n, length-append (a k) (b k)) in
        let s = splice out (at k) (a k) in
        ap (fill ks behind b)
        (sym (fill_past _ hi ks at a s (b k) (behind k) (omega (arith, length-append (a k) (b k))) (apart_first _ hi ks p.1) (omega (arith, splice-length out (at k) (a k) m)))
        ∙ ap (fill ks at a) (splice-splice out (a k) (b k) (at k) m))
        ∙ fill-fill (at k + length (both k)) hi ks (splice out (at k) (both k)) p.1 (omega (arith, splice-length out (at k) (both k) n))

  -- ---- regions with no gap are one

  pub adjoin_apart : (lo : ℕ) (ks : List K) (at : K → ℕ) (w : K → List ℕ) → Adjoin lo ks at w → Apart lo ks at w (lo + length (flat w ks))
  unfolding Apart Adjoin flat
  adjoin_apart lo [] at w j = omega arith
  adjoin_apart lo (k ∷ ks) at w j =
      let e : lo + length (w k) + length (flat w ks) ≡ lo + length (w k ++ flat w ks) = omega (arith, length-append (w k) (flat w ks)) in
      (omega (arith, j.0), rw j.0 (rw e at (adjoin_apart (lo + length (w k)) ks at w j.1)))

  pub fill-joined : (lo : ℕ) (ks : List K) (at : K → ℕ) (w : K → List ℕ) (out : List ℕ) → Adjoin lo ks at w → lo + length (flat w ks) ≤ length out
      → fill ks at w out ≡ splice out lo (flat w ks)
  unfolding fill Adjoin flat
  fill-joined lo [] at w out j h = sym (splice-nil out lo)
  fill-joined lo (k ∷ ks) at w out j h =
      let n : lo + length (w k) ≤ length out = omega (arith, h, length-append (w k) (flat w ks)) in
      rw j.0
      (fill-joined (lo + length (w k)) ks at w (splice out lo (w k)) j.1 (omega (arith, h, length-append (w k) (flat w ks), splice-length out lo (w k) n))
      ∙ splice-splice out (w k) (flat w ks) lo n)

-- ---- a pass over a room: what it has still to write, and what it had to at its start

pub record Filling {K : Type 0} (ks : List K) (at₀ : K → ℕ) (whole : K → List ℕ) (out₀ : List ℕ) (at : K → ℕ) (rest : K → List ℕ) (out : List ℕ) : Type 0 where
  pub leads : fill ks at rest out ≡ fill ks at₀ whole out₀
  pub apart : Apart 0 ks at rest (length out₀)
  pub ends : (k : K) → at k + length (rest k) ≡ at₀ k + length (whole k)
  pub same : length out ≡ length out₀

pub filling_start : {K : Type 0} (ks : List K) (at : K → ℕ) (whole : K → List ℕ) (out : List ℕ) → Apart 0 ks at whole (length out) → Filling ks at whole out at whole out
filling_start ks at whole out a = record { leads = refl; apart = a; ends = λ k. refl; same = refl }

module _ {K : Type 0} {ks : List K} {at₀ : K → ℕ} {whole : K → List ℕ} {out₀ : List ℕ} {at : K → ℕ} {rest : K → List ℕ} {out : List ℕ} (f : Filling ks at₀ whole out₀ at rest out) where
  -- what is left, said in another way
  pub filling_as : {other : K → List ℕ} → ((k : K) → rest k ≡ other k) → Filling ks at₀ whole out₀ at other out
  filling_as {other} e =
      record {
        leads = fill-same ks out (λ k. refl) (λ k. sym (e k)) ∙ f.leads;
        apart = apart_same 0 (length out₀) ks (λ k. refl) e f.apart;
        ends = λ k. rw (e k) at (f.ends k);
        same = f.same;
      }

  -- what is left fits
  pub filling_room : Apart 0 ks at rest (length out)
  filling_room = rw f.same f.apart

  -- nothing is left
  pub filling_end : ((k : K) → rest k ≡ []) → Filled ks at₀ whole out₀ at out
  filling_end e = record { written = sym (fill_none ks at out e) ∙ f.leads; places = λ k. omega (arith, f.ends k, ap length (e k)) }

  module _ (a b : K → List ℕ) (e : (k : K) → rest k ≡ a k ++ b k) where
    split : Apart 0 ks at (both at a b) (length out₀)
    split = apart_same 0 (length out₀) ks (λ k. refl) e f.apart

    -- what a step writes fits
    pub filling_fits : Apart 0 ks at a (length out)
    filling_fits = rw f.same (apart_first at a b 0 (length out₀) ks split)

    pub filling_step : {at' : K → ℕ} {out' : List ℕ} → Filled ks at a out at' out' → Filling ks at₀ whole out₀ at' b out'
    filling_step {at'} {out'} w =
        let h : length out₀ ≤ length out = omega (arith, f.same) in
        record {
          leads =
              fill-same ks out' w.places (λ k. refl)
              ∙ ap (fill ks (behind at a b) b) w.written
              ∙ fill-fill at a b 0 (length out₀) ks out split h
              ∙ fill-same ks out (λ k. refl) (λ k. sym (e k))
              ∙ f.leads;
          ends = λ k. omega (arith, w.places k, f.ends k, ap length (e k), length-append (a k) (b k));
          apart = apart_same 0 (length out₀) ks (λ k. sym (w.places k)) (λ k. refl) (apart_next at a b 0 (length out₀) ks split);
          same = ap length w.written ∙ fill-length 0 (length out₀) ks at a out (apart_first at a b 0 (length out₀) ks split) h ∙ f.same;
        }
