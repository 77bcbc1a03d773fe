-- One kind of record in its span: the first of its records and where it stands, and what is left in the span behind it.
use Prim.Native.Nat.{ℕ, ◌+◌, ◌-◌, ◌≤◌, ◌<◌}
use native.Mathlib.Decide.{dec_le}
use native.Mathlib.Omega.{arith}
use mathlib.Core.Path.{◌≡◌, refl, sym, ap, subst, ◌∙◌}
use mathlib.Core.Bool.{Bool, true, false, cond}
use mathlib.Core.List.{List, [], ◌∷◌}
use mathlib.Core.Option.{Option, none, some}
use lib.ListN.{length, drop, length-drop}
use lib.Dec.{leb}
use borrow.Author.Tests.{le-leb, leb-true}
use Rattle.std.specs.Prelude.{Option as Returned, Some, None}
use Rattle.meaning.specs.Octets.{octet, at16, part}
use Rattle.meaning.specs.Reply.{Held, Failed}
use Rattle.meaning.specs.Capture.{then_read, sized, front_name, front_held, front_failed, until_end_in, until_end}
use Rattle.meaning.proofs.Walked.{Leaving}
use Rattle.meaning.proofs.Backwards.{then_came, cond_came, some_same}
use Rattle.contents.specs.Spans.{span, octets_of, spanned}
use Rattle.contents.specs.declared.Span.{Span}
use Rattle.contents.proofs.Between.{between, between_none, between-length, between-drop, between_front}
use Rattle.contents.proofs.Lengths.{Found, found}
use Rattle.contents.proofs.Records.{held-short, held_cut, held_found}
use Rattle.contents.proofs.Onward.{until_step}
use Rattle.capture.specs.Handing.{front_of}

-- ---- where one record ends

-- what is read at the front of the octets from a place up to another ends at a place ahead, of which P holds too
pub record Ends {A : Type 0} (P : A → ℕ → Type 0) (s : List ℕ) (from to : ℕ) (a : A) (behind : List ℕ) : Type 0 where
  pub end : ℕ
  pub ahead : from < end
  pub within : end ≤ to
  pub left : behind ≡ between s end to
  pub placed : P a end

abbrev pub Placing : {A : Type 0} → (List ℕ → Option (A × List ℕ)) → (A → ℕ → Type 0) → List ℕ → Type 0
Placing {A} one P s = (from to : ℕ) → from ≤ to → to ≤ length s → (a : A) (behind : List ℕ) → one (between s from to) ≡ some (a, behind) → Ends P s from to a behind

-- a value stands in the message, right before the place where its record ends
abbrev pub Standing : List ℕ → Held → ℕ → Type 0
Standing s h end = (part s (end - length h.value) (length h.value) ≡ h.value) × (length h.value ≤ end) × (end ≤ length s)

abbrev pub Anywhere : {A : Type 0} → A → ℕ → Type 0
Anywhere a end = Unit {0}

module _ (s : List ℕ) where
  pub name_placing : Placing front_name Anywhere s
  unfolding front_name
  name_placing from to h l n behind e =
      let p = cond_came (leb 2 (length (between s from to))) (at16 (between s from to) 0, drop 2 (between s from to)) (n, behind) e in
      let k : from + 2 ≤ to = omega (arith, leb-true 2 (length (between s from to)) p.0, between-length s from to l h) in
      record {
        end = from + 2;
        ahead = omega arith;
        within = k;
        left = sym (ap (λ (x : ℕ × List ℕ). x.1) p.1) ∙ between-drop s from to l 2 k;
        placed = tt;
      }

  pub failed_placing : (cause : ℕ → ℕ) → Placing (front_failed cause) Anywhere s
  unfolding front_failed
  failed_placing cause from to h l f behind e =
      let t = between s from to in
      let p = cond_came (leb 3 (length t)) (record { name = at16 t 0; cause = cause (octet t 2) }, drop 3 t) (f, behind) e in
      let k : from + 3 ≤ to = omega (arith, leb-true 3 (length (between s from to)) p.0, between-length s from to l h) in
      record {
        end = from + 3;
        ahead = omega arith;
        within = k;
        left = sym (ap (λ (x : Failed × List ℕ). x.1) p.1) ∙ between-drop s from to l 3 k;
        placed = tt;
      }

  held_ends : (w from to : ℕ) (p : Span) → from ≤ to → to ≤ length s → (h : Held) (behind : List ℕ) → Found s (from + 2) to w (Some p)
      → ◌≡◌ {A = Held × List ℕ} (record { name = at16 s from; value = octets_of s p }, between s p.to to) (h, behind) → Ends (Standing s) s from to h behind
  unfolding octets_of
  held_ends w from to p f l h behind k e =
      let v : octets_of s p ≡ h.value = ap (λ (x : Held × List ℕ). x.0.value) e in
      let n : length (part s p.from (p.to - p.from)) ≡ p.to - p.from = between-length s p.from p.to (omega (arith, k.3, l)) k.2 in
      let m : p.to - (p.to - p.from) ≡ p.from = omega (arith, k.2) in
      record {
        end = p.to;
        ahead = omega (arith, k.1, k.2);
        within = k.3;
        left = sym (ap (λ (x : Held × List ℕ). x.1) e);
        placed = subst (λ (v : List ℕ). (part s (p.to - length v) (length v) ≡ v) × (length v ≤ p.to) × (p.to ≤ length s)) v (rw (n, m), omega (arith, n), omega (arith, k.3, l));
      }

  pub held_placing : (w : ℕ) → 1 ≤ w → Placing (front_held w) (Standing s) s
  held_placing w g from to h l a behind e = go (dec_le (from + 2) to)
    where
      known : from + 2 ≤ to → (r : Returned Span) → Found s (from + 2) to w r → Ends (Standing s) s from to a behind
      known b None f = absurd (let z : ◌≡◌ {A = ℕ} 0 1 = cc (held_cut s from to w l b f) in omega arith)
      known b (Some p) f = held_ends w from to p h l a behind f (some_same (sym (held_found s from to w l b p f) ∙ e))

      go : Dec (from + 2 ≤ to) → Ends (Standing s) s from to a behind
      go (yes b) = known b (spanned to (sized w (between s (from + 2) to))) (found s (from + 2) to w b l _ refl)
      go (no b) = absurd (let z : ◌≡◌ {A = ℕ} 0 1 = cc (held-short s from to w l h (omega arith) g) in omega arith)

-- each record takes an octet or more
pub name_leaves : (x : ℕ) (t : List ℕ) → Leaving (length t) (front_name (x ∷ t))
unfolding front_name
name_leaves x t = go (leb 2 (length (x ∷ t)))
  where
    go : (b : Bool) → Leaving (length t) (cond b (some (at16 (x ∷ t) 0, drop 2 (x ∷ t))) none)
    go true = omega (arith, length-drop 2 (x ∷ t))
    go false = tt

pub failed_leaves : (cause : ℕ → ℕ) (x : ℕ) (t : List ℕ) → Leaving (length t) (front_failed cause (x ∷ t))
unfolding front_failed
failed_leaves cause x t = go (leb 3 (length (x ∷ t)))
  where
    go : (b : Bool) → Leaving {A = Failed} (length t) (cond b (some (record { name = at16 (x ∷ t) 0; cause = cause (octet (x ∷ t) 2) }, drop 3 (x ∷ t))) none)
    go true = omega (arith, length-drop 3 (x ∷ t))
    go false = tt

-- ---- a span of whole records

-- the span holds exactly these records
pub record Whole {A : Type 0} (one : List ℕ → Option (A × List ℕ)) (s : List ℕ) (p : Span) (l : List A) : Type 0 where
  pub ordered : p.from ≤ p.to
  pub inside : p.to ≤ length s
  pub read : until_end one (octets_of s p) ≡ some l

-- its first record, and the span behind that
pub record First {A : Type 0} (one : List ℕ → Option (A × List ℕ)) (P : A → ℕ → Type 0) (s : List ℕ) (p : Span) (l : List A) : Type 0 where
  pub first : A
  pub others : List A
  pub end : ℕ
  pub listed : l ≡ first ∷ others
  pub front : front_of one s p ≡ some (first, between s end p.to)
  pub place : p.to - length (between s end p.to) ≡ end
  pub placed : P first end
  pub rest : Whole one s (span end p.to) others

module _ {A : Type 0} (one : List ℕ → Option (A × List ℕ)) (P : A → ℕ → Type 0) (s : List ℕ) (places : Placing one P s) (takes : (x : ℕ) (t : List ℕ) → Leaving (length t) (one (x ∷ t))) where
  -- nothing left
  pub none_left : (p : Span) (l : List A) → Whole one s p l → p.to ≤ p.from → l ≡ []
  unfolding octets_of until_end until_end_in
  none_left p l w h = sym (some_same (sym (ap (until_end one) (between_none s p.from p.to h)) ∙ w.read))

  pub first_left : (p : Span) (l : List A) → Whole one s p l → p.from < p.to → First one P s p l
  unfolding octets_of front_of
  first_left p l w h =
      let t = between s p.from p.to in
      let c = between_front s p.from p.to w.inside h in
      let e : then_read (one t) (λ a. then_read (until_end one a.1) (λ as'. some (a.0 ∷ as'))) ≡ some l =
      rw c (sym (until_step one takes (octet s p.from) (between s (p.from + 1) p.to)) ∙ sym (ap (until_end one) c) ∙ w.read) in
      let q = then_came (one t) _ l e in
      let r = then_came (until_end one q.0.1) _ l q.2 in
      let f = places p.from p.to w.ordered w.inside q.0.0 q.0.1 q.1 in
      record {
        first = q.0.0;
        others = r.0;
        end = f.end;
        listed = sym (some_same r.2);
        front = rw (le-leb p.to (length s) w.inside) (q.1 ∙ ap (λ (b : List ℕ). some (q.0.0, b)) f.left);
        place = omega (arith, f.within, between-length s f.end p.to w.inside f.within);
        placed = f.placed;
        rest = record { ordered = f.within; inside = w.inside; read = sym (ap (until_end one) f.left) ∙ r.1 };
      }
