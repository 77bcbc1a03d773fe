-- A message that is opened and a message that is read: both are refused, or what is left to hand out at first is exactly what is read.
use Prim.Native.Nat.{ℕ, suc, ◌+◌, ◌-◌, ◌%◌, ◌≤◌}
use native.Mathlib.Omega.{arith}
use mathlib.Core.Path.{◌≡◌, refl, sym, ap, subst, ◌∙◌}
use mathlib.Core.Logic.{◌⊎◌, inl, inr}
use mathlib.Core.Bool.{cond}
use mathlib.Core.List.{List, [], ◌∷◌}
use mathlib.Core.Option.{Option, none, some}
use lib.ListN.{length}
use lib.Dec.{eqb}
use borrow.Author.Tests.{eq-eqb, ne_eqb}
use Rattle.std.specs.Prelude.{Some, None}
use Rattle.meaning.specs.Octets.{be16, part}
use Rattle.meaning.specs.Reply.{Held, Failed, held_octets, short_octets}
use Rattle.meaning.specs.Capture.{capturing, then_read, front_name, front_held, front_failed, read_cause, update_cause, behind_count, until_end_in, until_end, exactly, names_in, status_in, result_in, of_element}
use Rattle.meaning.proofs.Lists.{Octets}
use Rattle.meaning.proofs.Decode.{GoodHeld}
use Rattle.meaning.proofs.Fronts.{GoodShort, held_front, short_front, held_some}
use Rattle.meaning.proofs.Backwards.{read_as, count-read, held_came, short_came}
use Rattle.contents.specs.Spans.{span, octets_of, with_errors, with_values, counted_in}
use Rattle.contents.specs.declared.Span.{Span}
use Rattle.capture.specs.declared.Cursor.{Cursor}
use Rattle.capture.specs.Opening.{cursor, nothing_left, opened_names, status_of, opened_status, longs_at, with_longs, result_of, opened_result}
use Rattle.capture.proofs.OneKind.{Whole}
use Rattle.capture.proofs.WalksAgree.{Kept}
use Rattle.capture.proofs.LongsOpened.{Even, names_even, LongsOpens, longs_opens}
use Rattle.contents.proofs.Between.{between-length}
use Rattle.capture.proofs.SpansHold.{counted-whole}

abbrev pub empty : Span
empty = span 0 0

-- nothing was read, so nothing is left
pub empty_whole : {A : Type 0} (one : List ℕ → Option (A × List ℕ)) (s : List ℕ) → Whole one s empty []
unfolding octets_of part until_end until_end_in
empty_whole one s = record { ordered = omega arith; inside = omega arith; read = refl }

-- ---- element 71, and a notification

-- with what is opened of values and errors
pub record StatusOpen (s : List ℕ) (q p : Span) (o : Option (List ℕ)) : Type 0 where
  pub values : Span
  pub errors : Span
  pub vs : List Held
  pub es : List Failed
  pub opened : opened_status s (cursor q empty empty empty empty empty) p ≡ Some (cursor q values errors empty empty empty)
  pub read : of_element status_in o ≡ some (capturing [] vs es [] [] [])
  pub whole_values : Whole (front_held 2) s values vs
  pub whole_errors : Whole (front_failed read_cause) s errors es

abbrev pub StatusOpens : List ℕ → Span → Span → Option (List ℕ) → Type 0
StatusOpens s q p o = ((opened_status s (cursor q empty empty empty empty empty) p ≡ None) × (of_element status_in o ≡ none)) ⊎ StatusOpen s q p o

module _ (s : List ℕ) (octets : Octets s) (q p : Span) where
  status-absent : p ≡ empty → StatusOpens s q p none
  unfolding opened_status of_element
  status-absent e =
      inr
      (record {
        values = empty;
        errors = empty;
        vs = [];
        es = [];
        opened = rw e;
        read = refl;
        whole_values = empty_whole (front_held 2) s;
        whole_errors = empty_whole (front_failed read_cause) s;
      })

  module _ (k : Kept s p (some (octets_of s p))) where
    opened_is : opened_status s (cursor q empty empty empty empty empty) p ≡ status_of (cursor q empty empty empty empty empty) p.to (with_values p (behind_count (front_held 2) (octets_of s p)))
    unfolding opened_status counted_in
    opened_is = rw (ne_eqb p.to 0 (λ z. omega (arith, z, k.1)))

    -- the octets behind the errors, none or some
    at_end : (v : List Held × List ℕ) (es : List Failed) (t : List ℕ) → behind_count (front_held 2) (octets_of s p) ≡ some v → behind_count (front_failed read_cause) v.1 ≡ some (es, t) → StatusOpens s q p (some (octets_of s p))
    unfolding with_values with_errors status_of of_element status_in then_read exactly
    at_end v es [] a b =
        let z : p.to - 0 ≡ p.to = omega arith in
        let c = counted-whole held_octets 2 GoodHeld held_front held_came held_some read_cause s p octets k.2 k.3 v (es, []) a b in
        inr
        (record {
          values = span (p.from + 1) (p.to - length v.1);
          errors = span (p.to - length v.1 + 1) (p.to - 0);
          vs = v.0;
          es = es;
          opened = opened_is ∙ rw (a, b, eq-eqb (p.to - 0) p.to z);
          read = rw (a, b);
          whole_values = c.values;
          whole_errors = c.errors;
        })
    at_end v es (x ∷ t) a b = inl (opened_is ∙ rw (a, b, ne_eqb (p.to - suc (length t)) p.to (λ z. omega (arith, z, k.1))), rw (a, b))

    by_errors : (v : List Held × List ℕ) → behind_count (front_held 2) (octets_of s p) ≡ some v → (y : Option (List Failed × List ℕ)) → behind_count (front_failed read_cause) v.1 ≡ y → StatusOpens s q p (some (octets_of s p))
    unfolding with_values with_errors status_of of_element status_in then_read
    by_errors v a none b = inl (opened_is ∙ rw (a, b), rw (a, b))
    by_errors v a (some e) b = at_end v e.0 e.1 a b

    by_values : (x : Option (List Held × List ℕ)) → behind_count (front_held 2) (octets_of s p) ≡ x → StatusOpens s q p (some (octets_of s p))
    unfolding with_values status_of of_element status_in then_read
    by_values none a = inl (opened_is ∙ rw a, rw a)
    by_values (some v) a = by_errors v a (behind_count (front_failed read_cause) v.1) refl

  pub status-opens : (o : Option (List ℕ)) → Kept s p o → StatusOpens s q p o
  status-opens none k = status-absent k
  status-opens (some c) k =
      subst (λ (x : List ℕ). StatusOpens s q p (some x)) k.0 (by_values (refl, k.1, k.2, k.3) (behind_count (front_held 2) (octets_of s p)) refl)

-- ---- element 70

pub record NamesOpen (s : List ℕ) (p : Span) (o : Option (List ℕ)) : Type 0 where
  pub names : Span
  pub ns : List ℕ
  pub opened : opened_names nothing_left p ≡ Some (cursor names empty empty empty empty empty)
  pub read : of_element names_in o ≡ some (capturing ns [] [] [] [] [])
  pub whole : Whole front_name s names ns

abbrev pub NamesOpens : List ℕ → Span → Option (List ℕ) → Type 0
NamesOpens s p o = ((opened_names nothing_left p ≡ None) × (of_element names_in o ≡ none)) ⊎ NamesOpen s p o

module _ (s : List ℕ) (p : Span) (k : Kept s p (some (octets_of s p))) where
  names_opened : opened_names nothing_left p ≡ cond (eqb ((p.to - p.from) % 2) 0) (Some (cursor p empty empty empty empty empty)) None
  unfolding opened_names
  names_opened = rw (ne_eqb p.to 0 (λ y. omega (arith, y, k.1)))

  names_by : Even (octets_of s p) (until_end front_name (octets_of s p)) → NamesOpens s p (some (octets_of s p))
  unfolding of_element names_in then_read octets_of
  names_by (inl h) =
      let n : (p.to - p.from) % 2 ≡ 0 = ap (λ (i : ℕ). i % 2) (sym (between-length s p.from p.to k.3 k.2)) ∙ h.0 in
      inr (record { names = p; ns = h.1; opened = names_opened ∙ rw (eq-eqb ((p.to - p.from) % 2) 0 n); read = rw h.2; whole = record { ordered = k.2; inside = k.3; read = h.2 } })
  names_by (inr h) =
      let n : (p.to - p.from) % 2 ≡ 1 = ap (λ (i : ℕ). i % 2) (sym (between-length s p.from p.to k.3 k.2)) ∙ h.0 in
      inl (names_opened ∙ rw (ne_eqb ((p.to - p.from) % 2) 0 (λ y. omega (arith, y, n))), rw h.1)

pub names-opens : (s : List ℕ) (p : Span) (o : Option (List ℕ)) → Kept s p o → NamesOpens s p o
unfolding opened_names of_element
names-opens s p none k = inr (record { names = empty; ns = []; opened = rw k; read = refl; whole = empty_whole front_name s })
names-opens s p (some c) k =
    subst (λ (x : List ℕ). NamesOpens s p (some x)) k.0 (names_by s p (refl, k.1, k.2, k.3) (names_even (octets_of s p)))

-- ---- element 72

pub record ResultOpen (s : List ℕ) (q v e p : Span) (o : Option (List ℕ)) : Type 0 where
  pub updates : Span
  pub errors : Span
  pub longs : Span
  pub us : List Held
  pub fs : List Failed
  pub ls : List Held
  pub opened : opened_result s (cursor q v e empty empty empty) p ≡ Some (cursor q v e updates errors longs)
  pub read : of_element result_in o ≡ some (capturing [] [] [] us fs ls)
  pub whole_updates : Whole (front_held 1) s updates us
  pub whole_errors : Whole (front_failed update_cause) s errors fs
  pub whole_longs : Whole (front_held 2) s longs ls

abbrev pub ResultOpens : List ℕ → Span → Span → Span → Span → Option (List ℕ) → Type 0
ResultOpens s q v e p o = ((opened_result s (cursor q v e empty empty empty) p ≡ None) × (of_element result_in o ≡ none)) ⊎ ResultOpen s q v e p o

-- where errors end does not hang on how their causes read
errors_alike : (x : List ℕ) (values second to : ℕ) → with_errors values second to (behind_count (front_failed read_cause) x) ≡ with_errors values second to (behind_count (front_failed update_cause) x)
errors_alike x values second to =
    ap (with_errors values second to) (count-read read_cause x) ∙ either (behind_count (front_failed (λ c. c)) x) ∙ sym (ap (with_errors values second to) (count-read update_cause x))
  where
    either : (o : Option (List Failed × List ℕ)) → with_errors values second to (read_as read_cause o) ≡ with_errors values second to (read_as update_cause o)
    either none = unfold read_as in refl
    either (some r) = unfold read_as with_errors in refl

short_some : (h : Held) → 1 ≤ length (short_octets h)
unfolding short_octets be16
short_some h = omega arith

module _ (s : List ℕ) (octets : Octets s) (q v e p : Span) where
  result-absent : p ≡ empty → ResultOpens s q v e p none
  unfolding opened_result of_element
  result-absent z =
      inr
      (record {
        updates = empty;
        errors = empty;
        longs = empty;
        us = [];
        fs = [];
        ls = [];
        opened = rw z;
        read = refl;
        whole_updates = empty_whole (front_held 1) s;
        whole_errors = empty_whole (front_failed update_cause) s;
        whole_longs = empty_whole (front_held 2) s;
      })

  module _ (k : Kept s p (some (octets_of s p))) where
    abbrev before : Cursor
    before = cursor q v e empty empty empty

    result_is : opened_result s before p ≡ result_of s before p.to (with_values p (behind_count (front_held 1) (octets_of s p)))
    unfolding opened_result counted_in
    result_is = rw (ne_eqb p.to 0 (λ z. omega (arith, z, k.1)))

    module _ (u : List Held × List ℕ) (a : behind_count (front_held 1) (octets_of s p) ≡ some u) where
      with_errors_lem : opened_result s before p ≡ result_of s before p.to (with_errors (p.from + 1) (p.to - length u.1) p.to (behind_count (front_failed update_cause) u.1))
      unfolding with_values
      with_errors_lem = result_is ∙ rw a (ap (result_of s before p.to) (errors_alike u.1 (p.from + 1) (p.to - length u.1) p.to))

      module _ (f : List Failed × List ℕ) (b : behind_count (front_failed update_cause) u.1 ≡ some f) where
        with_longs_lem : opened_result s before p ≡ with_longs before (span (p.from + 1) (p.to - length u.1)) (span (p.to - length u.1 + 1) (p.to - length f.1)) (longs_at s (p.to - length f.1) p.to)
        unfolding result_of with_errors
        with_longs_lem = with_errors_lem ∙ rw b

        by_longs : LongsOpens s (p.to - length f.1) p.to f.1 → ResultOpens s q v e p (some (octets_of s p))
        unfolding with_longs of_element result_in then_read
        by_longs (inl h) = inl (with_longs_lem ∙ rw h.0, rw (a, b, h.1))
        by_longs (inr h) =
            let c = counted-whole short_octets 1 GoodShort short_front short_came short_some update_cause s p octets k.2 k.3 u f a b in
            inr
            (record {
              updates = span (p.from + 1) (p.to - length u.1);
              errors = span (p.to - length u.1 + 1) (p.to - length f.1);
              longs = h.longs;
              us = u.0;
              fs = f.0;
              ls = h.ls;
              opened = with_longs_lem ∙ rw h.opened;
              read = rw (a, b, h.read);
              whole_updates = c.values;
              whole_errors = c.errors;
              whole_longs = h.whole;
            })

        errors_there : ResultOpens s q v e p (some (octets_of s p))
        errors_there =
            let c = counted-whole short_octets 1 GoodShort short_front short_came short_some update_cause s p octets k.2 k.3 u f a b in
            by_longs (longs_opens s (p.to - length f.1) p.to f.1 (omega arith) k.3 c.behind)

      by_failures : (y : Option (List Failed × List ℕ)) → behind_count (front_failed update_cause) u.1 ≡ y → ResultOpens s q v e p (some (octets_of s p))
      unfolding result_of with_errors of_element result_in then_read
      by_failures none b = inl (with_errors_lem ∙ rw b, rw (a, b))
      by_failures (some f) b = errors_there f b

    by_updates : (x : Option (List Held × List ℕ)) → behind_count (front_held 1) (octets_of s p) ≡ x → ResultOpens s q v e p (some (octets_of s p))
    unfolding result_of with_values of_element result_in then_read
    by_updates none a = inl (result_is ∙ rw a, rw a)
    by_updates (some u) a = by_failures u a (behind_count (front_failed update_cause) u.1) refl

  pub result-opens : (o : Option (List ℕ)) → Kept s p o → ResultOpens s q v e p o
  result-opens none k = result-absent k
  result-opens (some c) k =
      subst (λ (x : List ℕ). ResultOpens s q v e p (some x)) k.0 (by_updates (refl, k.1, k.2, k.3) (behind_count (front_held 1) (octets_of s p)) refl)
