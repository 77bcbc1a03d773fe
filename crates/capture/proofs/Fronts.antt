-- The front of a span: a name, a value or an error there, one law for each way in which `name_in`, `held_in` and `failed_in` return, and
-- what is known of what they found.
use Prim.Native.Nat.{ℕ, ◌+◌, ◌-◌, ◌≤◌, ◌<◌}
use native.Mathlib.Decide.{dec_le}
use native.Mathlib.Omega.{arith}
use mathlib.Core.Path.{◌≡◌, refl, ◌∙◌}
use mathlib.Core.Logic.{◌⊎◌, inl, inr, ⊎_elim}
use mathlib.Core.Bool.{cond}
use mathlib.Core.List.{List}
use mathlib.Core.Option.{Option, none, some}
use lib.ListN.{length, drop}
use lib.Dec.{leb}
use borrow.Author.Tests.{le-leb, lt-leb}
use Rattle.std.specs.Prelude.{Option as Returned, Some, None}
use Rattle.meaning.specs.Octets.{octet, at16}
use Rattle.meaning.specs.Reply.{Failed as OneFailed}
use Rattle.meaning.specs.Capture.{sized, front_name, front_held, front_failed}
use Rattle.meaning.proofs.Lists.{part-octet}
use Rattle.contents.specs.Spans.{octets_of, spanned}
use Rattle.contents.specs.declared.Span.{Span}
use Rattle.contents.proofs.Between.{between, between-length, between-drop, part-at16}
use Rattle.contents.proofs.Lengths.{Found, found, stands}
use Rattle.contents.proofs.Records.{held-short, held_cut, held_found}
use Rattle.capture.specs.Handing.{front_of, named_by, name_in, held_by, held_in, failed_by, failed_in}

-- ---- a span that is all in the message or not, and has k octets or not

abbrev pub TooShort : ℕ → List ℕ → Span → Type 0
TooShort k s p = (length s < p.to) ⊎ ((p.to ≤ length s) × (p.to - p.from < k))

abbrev pub Fitting : ℕ → List ℕ → Span → Type 0
Fitting k s p = (p.to ≤ length s) × (p.from + k ≤ p.to)

too_short-more : (j k : ℕ) (s : List ℕ) (p : Span) → j ≤ k → TooShort j s p → TooShort k s p
too_short-more j k s p h = ⊎_elim (λ b. inl b) (λ b. inr (b.0, omega (arith, b.1)))

-- either is the case
fits_or_not : (k : ℕ) (s : List ℕ) (p : Span) → p.from ≤ p.to → Fitting k s p ⊎ TooShort k s p
fits_or_not k s p h = go (dec_le p.to (length s)) (dec_le (p.from + k) p.to)
  where
    go : Dec (p.to ≤ length s) → Dec (p.from + k ≤ p.to) → Fitting k s p ⊎ TooShort k s p
    go (yes l) (yes b) = inl (l, b)
    go (yes l) (no b) = inr (inr (l, omega arith))
    go (no l) (yes b) = inr (inl (omega arith))
    go (no l) (no b) = inr (inl (omega arith))

module _ {A : Type 0} (one : List ℕ → Option (A × List ℕ)) (s : List ℕ) (p : Span) where
  front_out : length s < p.to → front_of one s p ≡ none
  unfolding front_of
  front_out h = rw (lt-leb p.to (length s) h)

  front_in : p.to ≤ length s → front_of one s p ≡ one (between s p.from p.to)
  unfolding front_of octets_of
  front_in h = rw (le-leb p.to (length s) h)

-- ---- something of k octets

abbrev fixed : {A : Type 0} → ℕ → (List ℕ → A) → List ℕ → Option (A × List ℕ)
fixed k make t = cond (leb k (length t)) (some (make t, drop k t)) none

module _ {A : Type 0} (k : ℕ) (make : List ℕ → A) (s : List ℕ) (p : Span) where
  fixed_there : Fitting k s p → front_of (fixed k make) s p ≡ some (make (between s p.from p.to), between s (p.from + k) p.to)
  fixed_there f =
      let l : k ≤ length (between s p.from p.to) = omega (arith, f.1, between-length s p.from p.to f.0 (omega (arith, f.1))) in
      rw (front_in (fixed k make) s p f.0, le-leb k (length (between s p.from p.to)) l, between-drop s p.from p.to f.0 k f.1)

  fixed_short : p.from ≤ p.to → TooShort k s p → front_of (fixed k make) s p ≡ none
  fixed_short h =
      ⊎_elim (front_out (fixed k make) s p) (λ b.
      let l : length (between s p.from p.to) < k = omega (arith, b.1, between-length s p.from p.to b.0 h) in
      rw (front_in (fixed k make) s p b.0, lt-leb k (length (between s p.from p.to)) l))

-- ---- a name

module _ (s : List ℕ) (p : Span) where
  pub front_name_lem : Fitting 2 s p → front_of front_name s p ≡ some (at16 s p.from, between s (p.from + 2) p.to)
  unfolding front_name
  front_name_lem f = fixed_there 2 (λ t. at16 t 0) s p f ∙ rw (part-at16 s p.from (p.to - p.from) (omega (arith, f.1)))

  pub no_front_name : p.from ≤ p.to → TooShort 2 s p → front_of front_name s p ≡ none
  unfolding front_name
  no_front_name h b = fixed_short 2 (λ t. at16 t 0) s p h b

  pub name_found : (n : ℕ) → Fitting 2 s p → n ≡ at16 s p.from → Some n ≡ name_in s p
  unfolding name_in named_by
  name_found n f e = rw (front_name_lem f, e)

  pub name-short : p.from ≤ p.to → TooShort 2 s p → None ≡ name_in s p
  unfolding name_in named_by
  name-short h b = rw (no_front_name h b)

  abbrev NameIs : Returned ℕ → Type 0
  NameIs None = TooShort 2 s p
  NameIs (Some n) = Fitting 2 s p × (n ≡ at16 s p.from)

  name_is : p.from ≤ p.to → (r : Returned ℕ) → r ≡ name_in s p → NameIs r
  name_is h r e =
      rw e
      (⊎_elim (λ f. rw (← name_found (at16 s p.from) f refl) (f, refl)) (λ b. rw (← name-short h b) b)
      (fits_or_not 2 s p h))

module _ (s : List ℕ) (p : Span) (h : p.from ≤ p.to) where
  pub name-told : (n : ℕ) → Some n ≡ name_in s p → Fitting 2 s p × (n ≡ at16 s p.from)
  name-told n e = name_is s p h (Some n) e

  pub no_name-told : None ≡ name_in s p → TooShort 2 s p
  no_name-told e = name_is s p h None e

-- ---- an error: a name and a cause

module _ (cause : ℕ → ℕ) (s : List ℕ) (p : Span) where
  pub front_failed_lem : Fitting 3 s p
      → front_of (front_failed cause) s p ≡ some (record { name = at16 s p.from; cause = cause (octet s (p.from + 2)) }, between s (p.from + 3) p.to)
  unfolding front_failed
  front_failed_lem f =
      fixed_there {A = OneFailed} 3 (λ t. record { name = at16 t 0; cause = cause (octet t 2) }) s p f
      ∙ rw (part-at16 s p.from (p.to - p.from) (omega (arith, f.1)), part-octet s p.from (p.to - p.from) 2 (omega (arith, f.1)))

  pub no_front_failed : p.from ≤ p.to → TooShort 3 s p → front_of (front_failed cause) s p ≡ none
  unfolding front_failed
  no_front_failed h b = fixed_short {A = OneFailed} 3 (λ t. record { name = at16 t 0; cause = cause (octet t 2) }) s p h b

module _ (s : List ℕ) (p : Span) where
  pub failed_found : (n : ℕ) → Fitting 3 s p → n ≡ at16 s p.from → Some (n, octet s (p.from + 2)) ≡ failed_in s p
  unfolding failed_in failed_by
  failed_found n f e = rw (front_failed_lem (λ c. c) s p f, e)

  pub failed-short : p.from ≤ p.to → TooShort 3 s p → None ≡ failed_in s p
  unfolding failed_in failed_by
  failed-short h b = rw (no_front_failed (λ c. c) s p h b)

  abbrev FailedIs : Returned (ℕ × ℕ) → Type 0
  FailedIs None = TooShort 3 s p
  FailedIs (Some f) = Fitting 3 s p × (f.0 ≡ at16 s p.from) × (f.1 ≡ octet s (p.from + 2))

  failed_is : p.from ≤ p.to → (r : Returned (ℕ × ℕ)) → r ≡ failed_in s p → FailedIs r
  failed_is h r e =
      rw e
      (⊎_elim (λ f. rw (← failed_found (at16 s p.from) f refl) (f, refl, refl)) (λ b. rw (← failed-short h b) b)
      (fits_or_not 3 s p h))

module _ (s : List ℕ) (p : Span) (h : p.from ≤ p.to) where
  pub failed-told : (n c : ℕ) → Some (n, c) ≡ failed_in s p → Fitting 3 s p × (n ≡ at16 s p.from) × (c ≡ octet s (p.from + 2))
  failed-told n c e = failed_is s p h (Some (n, c)) e

  -- where not even a name is
  pub failed_no_name : None ≡ name_in s p → None ≡ failed_in s p
  failed_no_name e = failed-short s p h (too_short-more 2 3 s p (omega arith) (no_name-told s p h e))

  pub no_failed-told : None ≡ failed_in s p → TooShort 3 s p
  no_failed-told e = failed_is s p h None e

-- ---- a name and a value with a length of w octets

module _ (w : ℕ) (s : List ℕ) (p : Span) where
  -- a value stands at v behind a name at the front
  abbrev pub Holding : ℕ → Span → Type 0
  Holding n v =
      (front_of (front_held w) s p ≡ some (record { name = n; value = octets_of s v }, between s v.to p.to))
      × (v.from ≤ v.to)
      × (v.to ≤ p.to)
      × (p.to ≤ length s)

  front_held_lem : (n : ℕ) (v : Span) → Fitting 2 s p → n ≡ at16 s p.from → Found s (p.from + 2) p.to w (Some v) → Holding n v
  front_held_lem n v f e g = (front_in (front_held w) s p f.0 ∙ rw (held_found s p.from p.to w f.0 f.1 v g, e), g.2, g.3, f.0)

  no_front_held : Fitting 2 s p → Found s (p.from + 2) p.to w None → front_of (front_held w) s p ≡ none
  no_front_held f g = front_in (front_held w) s p f.0 ∙ held_cut s p.from p.to w f.0 f.1 g

  short-held : p.from ≤ p.to → 1 ≤ w → TooShort 2 s p → front_of (front_held w) s p ≡ none
  short-held h g =
      ⊎_elim (front_out (front_held w) s p) (λ b. front_in (front_held w) s p b.0 ∙ held-short s p.from p.to w b.0 h b.1 g)

  held_none : front_of (front_held w) s p ≡ none → None ≡ held_in w s p
  unfolding held_in held_by
  held_none e = rw e

  held_some : (n : ℕ) (v : Span) → Holding n v → Some (n, v) ≡ held_in w s p
  unfolding held_in held_by
  held_some n v f = rw (f.0, stands s v p.to f.1 f.2 f.3)

  pub value_found : (n : ℕ) (v : Span) → Fitting 2 s p → n ≡ at16 s p.from → Found s (p.from + 2) p.to w (Some v) → Some (n, v) ≡ held_in w s p
  value_found n v f e g = held_some n v (front_held_lem n v f e g)

  pub value_cut : Fitting 2 s p → Found s (p.from + 2) p.to w None → None ≡ held_in w s p
  value_cut f g = held_none (no_front_held f g)

  pub value-short : p.from ≤ p.to → 1 ≤ w → TooShort 2 s p → None ≡ held_in w s p
  value-short h g b = held_none (short-held h g b)

  abbrev HeldIs : Returned (ℕ × Span) → Type 0
  HeldIs None = front_of (front_held w) s p ≡ none
  HeldIs (Some h) = Holding h.0 h.1

  held_is : p.from ≤ p.to → 1 ≤ w → (r : Returned (ℕ × Span)) → r ≡ held_in w s p → HeldIs r
  held_is h g r e = rw e (⊎_elim fitting (λ b. rw (← value-short h g b) (short-held h g b)) (fits_or_not 2 s p h))
    where
      known : Fitting 2 s p → (o : Returned Span) → Found s (p.from + 2) p.to w o → HeldIs (held_in w s p)
      known f None k = rw (← value_cut f k) (no_front_held f k)
      known f (Some v) k =
          let there = front_held_lem (at16 s p.from) v f refl k in
          rw (← held_some (at16 s p.from) v there) there

      fitting : Fitting 2 s p → HeldIs (held_in w s p)
      fitting f = known f (spanned p.to (sized w (between s (p.from + 2) p.to))) (found s (p.from + 2) p.to w f.1 f.0 _ refl)

module _ (w : ℕ) (s : List ℕ) (p : Span) (h : p.from ≤ p.to) (g : 1 ≤ w) where
  pub held-told : (n : ℕ) (v : Span) → Some (n, v) ≡ held_in w s p → Holding w s p n v
  held-told n v e = held_is w s p h g (Some (n, v)) e

  pub no_held-told : None ≡ held_in w s p → front_of (front_held w) s p ≡ none
  no_held-told e = held_is w s p h g None e
