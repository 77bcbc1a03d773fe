-- Values and errors, each behind its count: one law for each way in which `counted_in` returns.
use Prim.Native.Nat.{ℕ, zero, suc, ◌+◌, ◌-◌, ◌*◌, ◌≤◌, ◌<◌}
use native.Mathlib.Decide.{dec_le}
use native.Mathlib.Omega.{arith}
use mathlib.Core.Path.{◌≡◌, refl, sym, ap, ◌∙◌}
use mathlib.Core.List.{List, [], ◌∷◌}
use mathlib.Core.Option.{Option, none, some}
use lib.ListN.{length, drop, length-drop}
use lib.Seq.{drop-drop}
use borrow.Author.Tests.{le-leb, lt-leb}
use Rattle.meaning.specs.Octets.{octet, at16}
use Rattle.meaning.specs.Reply.{Failed}
use Rattle.meaning.specs.Capture.{then_read, front_held, front_failed, read_cause, several, behind_count}
use Rattle.contents.specs.declared.Span.{Span}
use Rattle.std.specs.Prelude.{Option as Returned, Some, None}
use Rattle.contents.specs.declared.Counted.{Counted}
use Rattle.contents.specs.Spans.{span, octets_of, with_errors, with_values, counted_in}
use Rattle.contents.proofs.Between.{between, between_none, between-length, between_front}
use Rattle.contents.proofs.Records.{end_of, several-behind, told_none, told_some}

-- ---- errors take three octets each

module _ (cause : ℕ → ℕ) where
  failed_there : (t : List ℕ) → 3 ≤ length t → front_failed cause t ≡ some (record { name = at16 t 0; cause = cause (octet t 2) }, drop 3 t)
  unfolding front_failed
  failed_there t h = rw (le-leb 3 (length t) h)

  failed-short : (t : List ℕ) → length t < 3 → front_failed cause t ≡ none
  unfolding front_failed
  failed-short t h = rw (lt-leb 3 (length t) h)

  failures_cut : (n : ℕ) (t : List ℕ) → length t < 3 * n → several (front_failed cause) n t ≡ none
  unfolding several then_read
  failures_cut zero t h = absurd (omega arith)
  failures_cut (suc n) t h = go (dec_le 3 (length t)) (failures_cut n (drop 3 t))
    where
      go : Dec (3 ≤ length t) → (length (drop 3 t) < 3 * n → several (front_failed cause) n (drop 3 t) ≡ none) → several (front_failed cause) (suc n) t ≡ none
      go (yes b) more = rw (failed_there t b, more (omega (arith, length-drop 3 t)))
      go (no b) more = rw (failed-short t (omega arith))

  failures_there : (n : ℕ) (t : List ℕ) → 3 * n ≤ length t → (es : List Failed) × (several (front_failed cause) n t ≡ some (es, drop (3 * n) t))
  unfolding several then_read
  failures_there zero t h = ([], refl)
  failures_there (suc n) t h =
      let rest = failures_there n (drop 3 t) (omega (arith, length-drop 3 t)) in
      let d : 3 + 3 * n ≡ 3 * suc n = omega arith in
      (record { name = at16 t 0; cause = cause (octet t 2) } ∷ rest.0, rw (failed_there t (omega arith), rest.1, drop-drop (3 * n) 3 t, d))

-- ---- errors behind their count, from a place on

abbrev both : Span → Span → Counted
both v e = record { values = v; errors = e }

abbrev errors_from : List ℕ → ℕ → ℕ → ℕ → Returned Counted
errors_from s values second to = with_errors values second to (behind_count (front_failed read_cause) (between s second to))

module _ (s : List ℕ) (values second to : ℕ) (l : to ≤ length s) where
  none_left : to ≤ second → None ≡ errors_from s values second to
  unfolding with_errors behind_count
  none_left h = rw (between_none s second to h)

  module _ (h : second < to) where
    long : length (between s (second + 1) to) ≡ to - (second + 1)
    long = between-length s (second + 1) to l (omega arith)

    errors_cut : (n : ℕ) → n ≡ octet s second → to - (second + 1) < 3 * n → None ≡ errors_from s values second to
    unfolding with_errors behind_count
    errors_cut n e b = rw (between_front s second to l h, ← e, failures_cut read_cause n (between s (second + 1) to) (omega (arith, long)))

    errors_there : (n : ℕ) → n ≡ octet s second → 3 * n ≤ to - (second + 1) → Some (both (span values second) (span (second + 1) (second + 1 + 3 * n))) ≡ errors_from s values second to
    unfolding with_errors behind_count
    errors_there n e b =
        let f = failures_there read_cause n (between s (second + 1) to) (omega (arith, long)) in
        rw (between_front s second to l h, ← e, f.1)
        (ap (λ (i : ℕ). Some (both (span values second) (span (second + 1) i))) (omega (arith, long, length-drop (3 * n) (between s (second + 1) to))))

-- ---- each way in which `counted_in` returns

module _ (w : ℕ) (s : List ℕ) (p : Span) (g : 1 ≤ w) (l : p.to ≤ length s) where
  pub no_count_lem : p.to ≤ p.from → None ≡ counted_in w s p
  unfolding counted_in with_values behind_count octets_of
  no_count_lem h = rw (between_none s p.from p.to h)

  module _ (h : p.from < p.to) where
    counted_is : counted_in w s p ≡ with_values p (several (front_held w) (octet s p.from) (between s (p.from + 1) p.to))
    unfolding counted_in behind_count octets_of
    counted_is = rw (between_front s p.from p.to l h)

    pub values_cut : None ≡ end_of s (p.from + 1) p.to w (octet s p.from) → None ≡ counted_in w s p
    unfolding with_values
    values_cut e = sym (counted_is ∙ rw (told_none p.to _ e))

    module _ (second : ℕ) (e : Some second ≡ end_of s (p.from + 1) p.to w (octet s p.from)) where
      second-told : (counted_in w s p ≡ errors_from s (p.from + 1) second p.to) × (p.from + 1 ≤ second) × (second ≤ p.to)
      unfolding with_values
      second-told =
          let v = told_some s (p.from + 1) p.to l _ second e (several-behind s p.to w l g (octet s p.from) (p.from + 1) (omega arith)) in
          let z : p.to - length (between s second p.to) ≡ second = omega (arith, v.3, between-length s second p.to l v.3) in
          (counted_is ∙ rw (v.1, z), v.2, v.3)

      pub no_second-count : p.to ≤ second → None ≡ counted_in w s p
      no_second-count b = rw second-told.0 (none_left s (p.from + 1) second p.to l b)

      module _ (n : ℕ) (b : second < p.to) (c : n ≡ octet s second) where
        pub no_errors : p.to - (second + 1) < 3 * n → None ≡ counted_in w s p
        no_errors d = rw second-told.0 (errors_cut s (p.from + 1) second p.to l b n c d)

        pub both_there : 3 * n ≤ p.to - (second + 1) → Some (both (span (p.from + 1) second) (span (second + 1) (second + 1 + 3 * n))) ≡ counted_in w s p
        both_there d = rw second-told.0 (errors_there s (p.from + 1) second p.to l b n c d)

-- ---- what is found ends where the octets end, or before

abbrev pub EndsBy : ℕ → Returned Counted → Type 0
EndsBy n None = Unit {0}
EndsBy n (Some k) = k.errors.to ≤ n

errors_by : {A : Type 0} (values second to : ℕ) (o : Option (A × List ℕ)) → EndsBy to (with_errors values second to o)
unfolding with_errors
errors_by values second to none = tt
errors_by values second to (some e) = omega arith

values_by : {A : Type 0} (p : Span) (o : Option (A × List ℕ)) → EndsBy p.to (with_values p o)
unfolding with_values
values_by p none = tt
values_by p (some v) = errors_by (p.from + 1) (p.to - length v.1) p.to (behind_count (front_failed read_cause) v.1)

pub counted_by : (w : ℕ) (s : List ℕ) (p : Span) (r : Returned Counted) → r ≡ counted_in w s p → EndsBy p.to r
unfolding counted_in
counted_by w s p r e = rw e (values_by p (behind_count (front_held w) (octets_of s p)))
