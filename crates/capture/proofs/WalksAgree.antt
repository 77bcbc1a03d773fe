-- The elements of a reply by their places, and the same by their contents: one walk agrees with the other.
use Prim.Native.Nat.{ℕ, zero, suc, ◌+◌, ◌≤◌, ◌<◌}
use native.Mathlib.Decide.{dec_le}
use native.Mathlib.Numerals.{add-one}
use native.Mathlib.Omega.{arith}
use mathlib.Core.Path.{◌≡◌, refl, ap, ◌∙◌}
use mathlib.Core.Bool.{Bool, true, false, cond}
use mathlib.Core.List.{List}
use mathlib.Core.Option.{Option, none, some}
use lib.ListN.{length, drop, drop_of_length-le}
use lib.Seq.{drop-cons}
use lib.Dec.{eqb}
use Rattle.std.specs.Prelude.{Option as Returned, Some, None}
use Rattle.meaning.specs.Octets.{octet}
use Rattle.meaning.specs.Capture.{then_read, sized, length_octets, Elements, is_read, keeping, elements_in, elements_of}
use Rattle.meaning.proofs.Skipped.{kept_of, unread}
use Rattle.contents.specs.Spans.{span, octets_of, standing, spanned}
use Rattle.contents.specs.declared.Span.{Span}
use Rattle.contents.proofs.Between.{between, between_end}
use Rattle.contents.proofs.Lengths.{Found, found, stands}

-- a span of contents that were read, behind the type; from 0 to 0 where none were
abbrev pub Kept : List ℕ → Span → Option (List ℕ) → Type 0
Kept s p none = p ≡ span 0 0
Kept s p (some c) = (octets_of s p ≡ c) × (1 ≤ p.to) × (p.from ≤ p.to) × (p.to ≤ length s)

pub record Same (s : List ℕ) (k : Elements Span) (m : Elements (Option (List ℕ))) : Type 0 where
  pub highest : k.highest ≡ m.highest
  pub names : Kept s k.names m.names
  pub status : Kept s k.status m.status
  pub result : Kept s k.result m.result

-- either walk is cut short, or neither and they agree
abbrev pub Agree : List ℕ → Option (Elements Span) → Option (Elements (Option (List ℕ))) → Type 0
Agree s none none = Unit {0}
Agree s none (some m) = ⊥
Agree s (some k) none = ⊥
Agree s (some k) (some m) = Same s k m

module _ (s : List ℕ) where
  kept_either : (b : Bool) (p q : Span) (c o : Option (List ℕ)) → Kept s p c → Kept s q o → Kept s (cond b p q) (cond b c o)
  kept_either true p q c o f g = f
  kept_either false p q c o f g = g

  same-keeping : (k : Elements Span) (m : Elements (Option (List ℕ))) (id : ℕ) (p : Span) (c : List ℕ) → Same s k m → Kept s p (some c) → Same s (keeping k id p) (keeping m id (some c))
  unfolding keeping
  same-keeping k m id p c h f = go (is_read m.highest id) (ap (λ (i : ℕ). is_read i id) h.highest) refl
    where
      go : (b : Bool) → is_read k.highest id ≡ is_read m.highest id → is_read m.highest id ≡ b → Same s (keeping k id p) (keeping m id (some c))
      go true e q =
          let r : is_read k.highest id ≡ true = e ∙ q in
          rw (r, q)
          (record {
            highest = refl;
            names = kept_either (eqb id 0x70) p k.names (some c) m.names f h.names;
            status = kept_either (eqb id 0x71) p k.status (some c) m.status f h.status;
            result = kept_either (eqb id 0x72) p k.result (some c) m.result f h.result;
          })
      go false e q =
          let r : is_read k.highest id ≡ false = e ∙ q in
          rw (r, q) h

  -- one element, with what comes behind it known
  turn : (n at : ℕ) (k : Elements Span) (m : Elements (Option (List ℕ))) → at < length s → Same s k m
      → ((next : ℕ) (k' : Elements Span) (m' : Elements (Option (List ℕ))) → next ≤ length s → Same s k' m' → Agree s (elements_in (standing (length s)) n k' (drop next s)) (elements_in kept_of n m' (drop next s)))
      → (r : Returned Span) → Found s (at + 1) (length s) (length_octets (octet s at)) r
      → Agree s (then_read (sized (length_octets (octet s at)) (between s (at + 1) (length s))) (λ e. elements_in (standing (length s)) n (keeping k (octet s at) (standing (length s) e.0 e.1)) e.1))
      (then_read (sized (length_octets (octet s at)) (between s (at + 1) (length s))) (λ e. elements_in kept_of n (keeping m (octet s at) (some e.0)) e.1))
  unfolding then_read
  turn n at k m l h ih None f = rw f tt
  turn n at k m l h ih (Some p) f =
      rw (f.0, stands s p (length s) f.2 f.3 (omega arith), between_end s p.to)
      (ih p.to (keeping k (octet s at) p) (keeping m (octet s at) (some (octets_of s p))) f.3
      (same-keeping k m (octet s at) p (octets_of s p) h (refl, omega (arith, f.1, f.2), f.2, f.3)))

  walks_agree : (n at : ℕ) (k : Elements Span) (m : Elements (Option (List ℕ))) → at ≤ length s → Same s k m
      → Agree s (elements_in (standing (length s)) n k (drop at s)) (elements_in kept_of n m (drop at s))
  unfolding elements_in
  walks_agree zero at k m l h = go (dec_le (length s) at)
    where
      go : Dec (length s ≤ at) → Agree s (elements_in (standing (length s)) 0 k (drop at s)) (elements_in kept_of 0 m (drop at s))
      go (yes e) = rw (drop_of_length-le s e) h
      go (no e) = rw (drop-cons s at 0 (omega arith)) tt
  walks_agree (suc n) at k m l h = go (dec_le (length s) at) (λ next k' m' l' h'. walks_agree n next k' m' l' h')
    where
      go : Dec (length s ≤ at)
          → ((next : ℕ) (k' : Elements Span) (m' : Elements (Option (List ℕ))) → next ≤ length s → Same s k' m' → Agree s (elements_in (standing (length s)) n k' (drop next s)) (elements_in kept_of n m' (drop next s)))
          → Agree s (elements_in (standing (length s)) (suc n) k (drop at s)) (elements_in kept_of (suc n) m (drop at s))
      go (yes e) ih = rw (drop_of_length-le s e) h
      go (no e) ih =
          rw (drop-cons s at 0 (omega arith), ← add-one, ← between_end s (at + 1))
          (turn n at k m (omega arith) h ih (spanned (length s) (sized (length_octets (octet s at)) (between s (at + 1) (length s))))
          (found s (at + 1) (length s) (length_octets (octet s at)) (omega arith) (omega arith) (spanned (length s) (sized (length_octets (octet s at)) (between s (at + 1) (length s)))) refl))

  -- the elements of a message, walked behind its type
  pub elements_agree : 1 ≤ length s → Agree s (elements_of (standing (length s)) (span 0 0) (drop 1 s)) (elements_of kept_of none (drop 1 s))
  unfolding elements_of
  elements_agree h = walks_agree (length (drop 1 s)) 1 _ unread h (record { highest = refl; names = refl; status = refl; result = refl })
