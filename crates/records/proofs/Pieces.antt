-- Octets written piece by piece: what is in the room, with what is left behind it, is the whole at its place.
use Prim.Native.Nat.{ℕ, ◌+◌, ◌≤◌}
use native.Mathlib.Nat.{add-zero, zero-add}
use native.Mathlib.Omega.{arith}
use mathlib.Core.Path.{◌≡◌, refl, sym, ap, ◌∙◌}
use mathlib.Core.List.{List, [], ◌++◌}
use lib.ListN.{length, drop, length-append}
use Rattle.meaning.specs.Octets.{splice}
use Rattle.meaning.proofs.Lists.{splice-length}
use Rattle.octets.proofs.Splices.{splice-nil, splice-splice}
use Rattle.octets.specs.Writing.{Wrote}

pub wrote_none : (out : List ℕ) (at : ℕ) {w : List ℕ} → w ≡ [] → Wrote out at w at out
wrote_none out at e = rw (e, splice-nil out at) (sym (add-zero at), refl)

pub wrote_this : (out : List ℕ) (at : ℕ) {w v out' : List ℕ} {end : ℕ} → w ≡ v → Wrote out at v end out' → Wrote out at w end out'
wrote_this out at e w = rw e w

pub record Left (out₀ : List ℕ) (at₀ : ℕ) (whole out : List ℕ) (at : ℕ) (rest : List ℕ) : Type 0 where
  pub leads : splice out at rest ≡ splice out₀ at₀ whole
  pub ends : at + length rest ≡ at₀ + length whole
  pub same : length out ≡ length out₀
  pub fits : at₀ + length whole ≤ length out₀

pub left_start : (out : List ℕ) (at : ℕ) (whole : List ℕ) → at + length whole ≤ length out → Left out at whole out at whole
left_start out at whole h = record { leads = refl; ends = refl; same = refl; fits = h }

module _ {out₀ whole out : List ℕ} {at₀ at : ℕ} where
  -- what is left, said in another way
  pub left_as : {rest other : List ℕ} → rest ≡ other → Left out₀ at₀ whole out at rest → Left out₀ at₀ whole out at other
  left_as e l = rw e at l

  -- what is left fits, and so does the first piece of it
  pub left_fits : {rest : List ℕ} → Left out₀ at₀ whole out at rest → at + length rest ≤ length out
  left_fits l = omega (arith, l.ends, l.same, l.fits)

  module _ (a b : List ℕ) (l : Left out₀ at₀ whole out at (a ++ b)) where
    pub first_fits : at + length a ≤ length out
    first_fits = omega (arith, left_fits l, length-append a b)

    pub left_next : {end : ℕ} {out' : List ℕ} → Wrote out at a end out' → Left out₀ at₀ whole out' end b
    left_next w =
        record {
          leads = rw (w.0, w.1) (splice-splice out a b at first_fits ∙ l.leads);
          ends = omega (arith, w.0, l.ends, length-append a b);
          same = ap length w.1 ∙ splice-length out at a first_fits ∙ l.same;
          fits = l.fits;
        }

  -- nothing is left
  pub left_none : {rest : List ℕ} → rest ≡ [] → Left out₀ at₀ whole out at rest → Wrote out₀ at₀ whole at out
  left_none e l = (omega (arith, l.ends, ap length e), sym (splice-nil out at) ∙ ap (splice out at) (sym e) ∙ l.leads)

  -- the last piece
  pub left_last : {rest : List ℕ} {end : ℕ} {out' : List ℕ} → Left out₀ at₀ whole out at rest → Wrote out at rest end out' → Wrote out₀ at₀ whole end out'
  left_last l w = (w.0 ∙ l.ends, w.1 ∙ l.leads)

-- written at the start of a room
pub at_start : (out v : List ℕ) → splice out 0 v ≡ v ++ drop (length v) out
unfolding splice
at_start out v = rw (zero-add (length v))
