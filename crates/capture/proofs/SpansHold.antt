-- What is opened of contents agrees with what the definition reads in them: both refuse, or the spans hold exactly the records read.
use Prim.Native.Nat.{ℕ, zero, suc, ◌+◌, ◌-◌, ◌≤◌}
use native.Mathlib.Omega.{arith}
use mathlib.Core.Path.{◌≡◌, refl, sym, ap, ◌∙◌}
use mathlib.Core.List.{List, [], ◌∷◌, ◌++◌, append_assoc, append-nil, map}
use mathlib.Core.Option.{some}
use lib.ListN.{length, length-append}
use lib.Seq.{take_at, drop_at}
use Rattle.meaning.specs.Octets.{part, flat, be16}
use Rattle.meaning.specs.Reply.{Held, Failed, failed_octets}
use Rattle.meaning.specs.Capture.{then_read, front_held, front_failed, behind_count, until_end_in, until_end}
use Rattle.meaning.proofs.Lists.{Each, Octets, octets-part}
use Rattle.meaning.proofs.Decode.{GoodFailed}
use Rattle.meaning.proofs.Fronts.{Front, GoodCause, failed_front, failed_reads, count_front, end_step, end_front}
use Rattle.meaning.proofs.Backwards.{Came, some_same, reading}
use Rattle.meaning.proofs.SpeltContents.{CountedSpelt, counted_came}
use Rattle.contents.specs.Spans.{span, octets_of}
use Rattle.contents.specs.declared.Span.{Span}
use Rattle.contents.proofs.Between.{between, between-length, between-part}
use Rattle.capture.proofs.OneKind.{Whole}

-- ---- a part of a span

part_of : (a b d : List ℕ) → part (a ++ (b ++ d)) (length a) (length b) ≡ b
unfolding part
part_of a b d = rw (drop_at a (b ++ d) (length a) refl) (take_at b d (length b) refl)

-- the octets b of a span, with a before them and d behind them
pub record Inner (s : List ℕ) (p : Span) (a b d : List ℕ) : Type 0 where
  pub octets : octets_of s (span (p.from + length a) (p.to - length d)) ≡ b
  pub ordered : p.from + length a ≤ p.to - length d
  pub sizes : p.to - p.from ≡ length a + (length b + length d)

pub inner : (s : List ℕ) (p : Span) (a b d : List ℕ) → p.from ≤ p.to → p.to ≤ length s → octets_of s p ≡ a ++ (b ++ d) → Inner s p a b d
unfolding octets_of
inner s p a b d h l e =
    let n : p.to - p.from ≡ length a + (length b + length d) = sym (between-length s p.from p.to l h) ∙ ap length e ∙ length-append a (b ++ d) ∙ ap (λ (k : ℕ). length a + k) (length-append b d) in
    let m : p.to - length d - (p.from + length a) ≡ length b = omega (arith, n, h) in
    let q : part s (p.from + length a) (length b) ≡ b =
    sym (between-part s p.from p.to l (length a) (length b) (omega (arith, n, h))) ∙ ap (λ (t : List ℕ). part t (length a) (length b)) e ∙ part_of a b d in
    record { octets = rw m q; ordered = omega (arith, n, h); sizes = n }

-- ---- errors with their causes as they read, up to the end

failed-long : (f : Failed) → length (failed_octets f) ≡ 3
unfolding failed_octets be16
failed-long f = refl

ends_as : (cause : ℕ → ℕ) (raw : List Failed) → Each GoodFailed raw → (n : ℕ) → length (flat failed_octets raw) ≤ n → until_end_in (front_failed cause) n (flat failed_octets raw) ≡ some (map (reading cause) raw)
unfolding until_end_in flat then_read
ends_as cause [] g zero h = refl
ends_as cause [] g (suc n) h = refl
ends_as cause (f ∷ raw) g zero h = absurd (omega (arith, failed-long f, length-append (failed_octets f) (flat failed_octets raw)))
ends_as cause (f ∷ raw) g (suc n) h =
    let l = length-append (failed_octets f) (flat failed_octets raw) in
    end_step failed_octets (front_failed cause) (GoodCause cause) (failed_front cause) (failed_octets f ++ flat failed_octets raw) n (omega (arith, failed-long f, l))
    ∙ rw (failed_reads cause f (flat failed_octets raw) g.0, ends_as cause raw g.1 n (omega (arith, failed-long f, l, h)))

pub errors_end : (cause : ℕ → ℕ) (raw : List Failed) → Each GoodFailed raw → until_end (front_failed cause) (flat failed_octets raw) ≡ some (map (reading cause) raw)
unfolding until_end
errors_end cause raw g = ends_as cause raw g (length (flat failed_octets raw)) (omega arith)

-- ---- values and errors, each behind its count

module _ (s : List ℕ) (p : Span) (h : p.from ≤ p.to) (l : p.to ≤ length s) (one : Held → List ℕ) (w : ℕ) (Good : Held → Type 0) (front : Front one (front_held w) Good)
    (some-octets : (v : Held) → 1 ≤ length (one v)) (cause : ℕ → ℕ) (c : List ℕ) (vs : List Held) (es : List Failed) (behind : List ℕ) (e : octets_of s p ≡ c)
    (k : CountedSpelt one Good cause c vs es behind) where
  abbrev second : List ℕ
  second = length k.raw ∷ flat failed_octets k.raw ++ behind

  values_inner : Inner s p (length vs ∷ []) (flat one vs) second
  values_inner = inner s p (length vs ∷ []) (flat one vs) second h l (e ∙ k.octets)

  second_is : (v : List Held × List ℕ) → behind_count (front_held w) c ≡ some v → v.1 ≡ second
  second_is v a =
      ap (λ (x : List Held × List ℕ). x.1) (some_same (sym a ∙ ap (behind_count (front_held w)) k.octets ∙ count_front one (front_held w) Good front vs second k.good_values))

  values-whole : Whole (front_held w) s (span (p.from + 1) (p.to - length second)) vs
  values-whole =
      record {
        ordered = values_inner.ordered;
        inside = omega (arith, l);
        read = rw values_inner.octets (end_front one (front_held w) Good front some-octets vs k.good_values);
      }

  abbrev before : List ℕ
  before = length vs ∷ (flat one vs ++ (length k.raw ∷ []))

  errors_inner : Inner s p before (flat failed_octets k.raw) behind
  errors_inner =
      inner s p before (flat failed_octets k.raw) behind h l
      (e ∙ k.octets ∙ ap (λ (t : List ℕ). length vs ∷ t) (sym (append_assoc (flat one vs) (length k.raw ∷ []) (flat failed_octets k.raw ++ behind))))

  errors_from_lem : p.to - length second + 1 ≡ p.from + length before
  errors_from_lem =
      omega (arith, h, values_inner.sizes, errors_inner.sizes, length-append (flat one vs) (length k.raw ∷ []), length-append (flat failed_octets k.raw) behind)

  errors_whole : Whole (front_failed cause) s (span (p.to - length second + 1) (p.to - length behind)) es
  errors_whole =
      record {
        ordered = rw errors_from_lem errors_inner.ordered;
        inside = omega (arith, l);
        read = rw (errors_from_lem, errors_inner.octets, k.told) (errors_end cause k.raw k.good_errors);
      }

  -- what stands behind the errors
  behind_is : between s (p.to - length behind) p.to ≡ behind
  unfolding octets_of
  behind_is =
      let i = inner s p (before ++ flat failed_octets k.raw) behind [] h l
      (e ∙ k.octets ∙ ap (λ (t : List ℕ). length vs ∷ t) (sym (append_assoc (flat one vs) (length k.raw ∷ []) (flat failed_octets k.raw ++ behind)))
      ∙ sym (append_assoc before (flat failed_octets k.raw) behind) ∙ ap (λ (t : List ℕ). before ++ flat failed_octets k.raw ++ t) (sym (append-nil behind))) in
      let f : p.from + length (before ++ flat failed_octets k.raw) ≡ p.to - length behind = omega (arith, h, i.sizes) in
      let z : p.to - 0 ≡ p.to = omega arith in
      rw (f, z) at i.octets

-- the two spans of counted values and errors, and what stands behind them
pub record CountedWhole (cause : ℕ → ℕ) (w : ℕ) (s : List ℕ) (p : Span) (v : List Held × List ℕ) (e : List Failed × List ℕ) : Type 0 where
  pub values : Whole (front_held w) s (span (p.from + 1) (p.to - length v.1)) v.0
  pub errors : Whole (front_failed cause) s (span (p.to - length v.1 + 1) (p.to - length e.1)) e.0
  pub behind : between s (p.to - length e.1) p.to ≡ e.1

pub counted-whole : (one : Held → List ℕ) (w : ℕ) (Good : Held → Type 0) → Front one (front_held w) Good → Came one (front_held w) Good → ((v : Held) → 1 ≤ length (one v)) → (cause : ℕ → ℕ)
    → (s : List ℕ) (p : Span) → Octets s → p.from ≤ p.to → p.to ≤ length s → (v : List Held × List ℕ) (e : List Failed × List ℕ)
    → behind_count (front_held w) (octets_of s p) ≡ some v → behind_count (front_failed cause) v.1 ≡ some e → CountedWhole cause w s p v e
unfolding octets_of
counted-whole one w Good front came some-octets cause s p o h l v e a b =
    let k = (counted_came one w Good came cause (octets_of s p) v e (octets-part s p.from (p.to - p.from) o) a b).0 in
    let i = second_is s p h l one w Good front some-octets cause (octets_of s p) v.0 e.0 e.1 refl k v a in
    record {
      values = rw i (values-whole s p h l one w Good front some-octets cause (octets_of s p) v.0 e.0 e.1 refl k);
      errors = rw i (errors_whole s p h l one w Good front some-octets cause (octets_of s p) v.0 e.0 e.1 refl k);
      behind = behind_is s p h l one w Good front some-octets cause (octets_of s p) v.0 e.0 e.1 refl k;
    }
