-- Reports taken one by one in table order: their counts, and the octets of each kind.
use Prim.Native.Nat.{ℕ, zero, suc, ◌+◌, ◌*◌, ◌-◌, ◌≤◌, ◌<◌}
use native.Mathlib.Nat.{add-zero}
use native.Mathlib.Numerals.{add-one}
use native.Mathlib.Omega.{arith}
use mathlib.Core.Path.{◌≡◌, refl, sym, ap, ap₂, ◌∙◌}
use mathlib.Core.Logic.{◌≢◌}
use mathlib.Core.Bool.{Bool, true, false, not, cond, ◌&&◌}
use mathlib.Core.List.{List, [], ◌∷◌, ◌++◌, append-nil}
use lib.ListN.{length, length-append}
use Rattle.meaning.specs.Octets.{be16, flat, nonempty}
use Rattle.meaning.specs.Table.{row_at, entry_count}
use Rattle.meaning.specs.Memory.{present, pending, body, sound}
use Rattle.meaning.specs.Profile.{cause_absent}
use Rattle.meaning.specs.Step.{Answer, value, read_error}
use Rattle.meaning.specs.Reply.{Held, Failed, gathered, record_of, held_octets, failed_octets, read_contents}
use Rattle.meaning.specs.Calls.{report, reports, notification}
use Rattle.meaning.proofs.Lists.{flat_append}
use Rattle.meaning.proofs.Places.{most-small}
use Rattle.meaning.proofs.Records.{gathered-append, read_length}
use Rattle.meaning.proofs.Answered.{body-length}
use Rattle.meaning.proofs.Notified.{notification-most}
use Rattle.octets.specs.Writing.{Wrote}
use Rattle.octets.proofs.Splices.{then}
use Rattle.records.proofs.Pieces.{Left, left_as, left_start, wrote_this}
use Rattle.records.proofs.Lengths.{held-length, failed-length}
use Rattle.notification.specs.declared.Due.{Due}
use Rattle.notification.specs.Reports.{part_of, due_at, more, due_of, Few}

reports-next : (p : ℕ) (m : List ℕ) (k : ℕ) → reports p m (k + 1) ≡ reports p m k ++ due_at p m k
unfolding reports due_at
reports-next p m k = rw add-one

-- ---- the records of a kind

part-append : (v : Bool) (a b : List Answer) → part_of v (a ++ b) ≡ part_of v a ++ part_of v b
unfolding part_of
part-append true a b = rw (gathered-append a b) (flat_append held_octets (gathered a).values (gathered b).values)
part-append false a b = rw (gathered-append a b) (flat_append failed_octets (gathered a).read_errors (gathered b).read_errors)

part-next : (p : ℕ) (v : Bool) (m : List ℕ) (k : ℕ) → part_of v (reports p m (k + 1)) ≡ part_of v (reports p m k) ++ part_of v (due_at p m k)
part-next p v m k = ap (part_of v) (reports-next p m k) ∙ part-append v (reports p m k) (due_at p m k)

grows : (p : ℕ) (v : Bool) (m : List ℕ) (k n : ℕ) → length (part_of v (reports p m k)) ≤ length (part_of v (reports p m (k + n)))
grows p v m k zero = omega (arith, ap (λ (j : ℕ). length (part_of v (reports p m j))) (add-zero k))
grows p v m k (suc n) =
    omega (arith, grows p v m k n, ap (λ (j : ℕ). length (part_of v (reports p m j))) (suc_is k n), ap length (part-next p v m (k + n)), length-append (part_of v (reports p m (k + n))) (part_of v (due_at p m (k + n))))
  where
    suc_is : (a b : ℕ) → a + suc b ≡ a + b + 1
    suc_is a b = omega arith

pub part-start : (p : ℕ) (m : List ℕ) (v : Bool) → part_of v (reports p m 0) ≡ []
unfolding reports part_of gathered flat
part-start p m true = refl
part-start p m false = refl

-- of one entry there is at most one record: a value, or the cause of an absent one
module _ (p : ℕ) (m : List ℕ) (k : ℕ) where
  abbrev due_if : Bool → Bool → List Answer
  due_if q b = cond q (cond b (value (row_at k).name (body m k)) (read_error (row_at k).name (cause_absent p)) ∷ []) []

  values_part : part_of true (due_at p m k) ≡ cond (pending m k && present m k) (held_octets (record { name = (row_at k).name; value = body m k })) []
  unfolding due_at report part_of gathered record_of flat
  values_part = go (pending m k) (present m k)
    where
      go : (q b : Bool) → flat held_octets (gathered (due_if q b)).values ≡ cond (q && b) (held_octets (record { name = (row_at k).name; value = body m k })) []
      go false b = refl
      go true false = refl
      go true true = append-nil _

  absent_part : part_of false (due_at p m k) ≡ cond (pending m k && not (present m k)) (failed_octets (record { name = (row_at k).name; cause = cause_absent p })) []
  unfolding due_at report part_of gathered record_of flat
  absent_part = go (pending m k) (present m k)
    where
      go : (q b : Bool) → flat failed_octets (gathered (due_if q b)).read_errors ≡ cond (q && not b) (failed_octets (record { name = (row_at k).name; cause = cause_absent p })) []
      go false b = refl
      go true true = refl
      go true false = append-nil _

  pub value_due : {n : ℕ} {b : List ℕ} → (pending m k && present m k) ≡ true → n ≡ (row_at k).name → b ≡ body m k
      → part_of true (due_at p m k) ≡ held_octets (record { name = n; value = b })
  value_due h e f = values_part ∙ rw (h, e, f) refl

  pub no_value_due : (pending m k && present m k) ≡ false → part_of true (due_at p m k) ≡ []
  no_value_due h = values_part ∙ rw h refl

  pub failed_due : {n c : ℕ} → (pending m k && not (present m k)) ≡ true → n ≡ (row_at k).name → c ≡ cause_absent p
      → part_of false (due_at p m k) ≡ failed_octets (record { name = n; cause = c })
  failed_due h e f = absent_part ∙ rw (h, e, f) refl

  pub none_failed_due : (pending m k && not (present m k)) ≡ false → part_of false (due_at p m k) ≡ []
  none_failed_due h = absent_part ∙ rw h refl

-- the records of a kind among the first entries are no longer than all of them
pub part-within : (p : ℕ) (v : Bool) (m : List ℕ) (k : ℕ) → k < entry_count
    → length (part_of v (reports p m k)) + length (part_of v (due_at p m k)) ≤ length (part_of v (reports p m entry_count))
part-within p v m k h = go (entry_count - (k + 1)) (omega arith)
  where
    go : (n : ℕ) → k + 1 + n ≡ entry_count → length (part_of v (reports p m k)) + length (part_of v (due_at p m k)) ≤ length (part_of v (reports p m entry_count))
    go n e = omega (arith, grows p v m (k + 1) n, ap (λ (j : ℕ). length (part_of v (reports p m j))) e, ap length (part-next p v m k), length-append (part_of v (reports p m k)) (part_of v (due_at p m k)))

-- a turn's record behind those before it
pub kind_next : (p : ℕ) (v : Bool) (m : List ℕ) (k : ℕ) (out : List ℕ) (at : ℕ) {o₁ o₂ : List ℕ} {e₁ e₂ : ℕ} → k < entry_count
    → at + length (part_of v (reports p m entry_count)) ≤ length out → Wrote out at (part_of v (reports p m k)) e₁ o₁
    → Wrote o₁ e₁ (part_of v (due_at p m k)) e₂ o₂ → Wrote out at (part_of v (reports p m (k + 1))) e₂ o₂
kind_next p v m k out at h f a b =
    let x = part_of v (reports p m k) in
    let y = part_of v (due_at p m k) in
    wrote_this out at (part-next p v m k) (
      b.0 ∙ omega (arith, a.0, length-append x y),
      then out x y at _ (omega (arith, part-within p v m k h, f)) a.0 a.1 b.1,
    )

-- in every profile the same values are due
values-alike : (p q : ℕ) (m : List ℕ) (k : ℕ) → part_of true (due_at p m k) ≡ part_of true (due_at q m k)
values-alike p q m k = values_part p m k ∙ sym (values_part q m k)

pub same_values : (p q : ℕ) (m : List ℕ) (k : ℕ) → part_of true (reports p m k) ≡ part_of true (reports q m k)
same_values p q m zero = part-start p m true ∙ sym (part-start q m true)
same_values p q m (suc k) =
    let next : (r : ℕ) → part_of true (reports r m (suc k)) ≡ part_of true (reports r m k) ++ part_of true (due_at r m k) = λ r. rw (add-one k) at (part-next r true m k) in
    next p ∙ ap₂ ◌++◌ (same_values p q m k) (values-alike p q m k) ∙ sym (next q)

-- ---- counts

counted : (a b : List Answer) → due_of (a ++ b) ≡ more (due_of a) b
unfolding due_of more
counted a b =
    rw (part-append true a b, gathered-append a b, length-append (part_of true a) (part_of true b), length-append (gathered a).values (gathered b).values, length-append (gathered a).read_errors (gathered b).read_errors)

pub due_next : (p : ℕ) (m : List ℕ) (k : ℕ) → more (due_of (reports p m k)) (due_at p m k) ≡ due_of (reports p m (k + 1))
due_next p m k = sym (ap due_of (reports-next p m k) ∙ counted (reports p m k) (due_at p m k))

-- what an entry adds
module _ (p : ℕ) (m : List ℕ) (k : ℕ) (d : Due) where
  pub more_none : pending m k ≡ false → d ≡ more d (due_at p m k)
  unfolding due_at more part_of gathered flat
  more_none q = rw (q, add-zero, add-zero, add-zero)

  module _ (q : pending m k ≡ true) where
    pub more-absent : present m k ≡ false → record { values = d.values; octets = d.octets; absent = d.absent + 1 } ≡ more d (due_at p m k)
    unfolding due_at report more part_of gathered record_of flat
    more-absent e = rw (q, e, add-zero, add-zero)

    pub more-value : {b : List ℕ} → present m k ≡ true → b ≡ body m k
        → record { values = d.values + 1; octets = d.octets + 4 + length b; absent = d.absent } ≡ more d (due_at p m k)
    unfolding due_at report more part_of gathered record_of flat
    more-value e f =
        let h : Held = record { name = (row_at k).name; value = body m k } in
        let n : d.octets + 4 + length (body m k) ≡ d.octets + length (held_octets h) = omega (arith, held-length h) in
        rw (q, e, f, add-zero, append-nil) (ap (λ (x : ℕ). record { values = d.values + 1; octets = x; absent = d.absent }) n)

-- not many
few_more : (p : ℕ) (m : List ℕ) (k n : ℕ) (d : Due) → k < entry_count → Few n d → Few (n + 1) (more d (due_at p m k))
few_more p m k n d h f = go (pending m k) refl (present m k) refl
  where
    go : (t : Bool) → pending m k ≡ t → (b : Bool) → present m k ≡ b → Few (n + 1) (more d (due_at p m k))
    go false q b e = rw (sym (more_none p m k d q)) (omega (arith, f.0), omega (arith, f.1), omega (arith, f.2))
    go true q false e = rw (sym (more-absent p m k d q e)) (omega (arith, f.0), omega (arith, f.1), omega (arith, f.2))
    go true q true e =
        let l : length (body m k) < 65536 = omega (arith, body-length m k, most-small k h) in
        rw (sym (more-value p m k d q e refl)) (omega (arith, f.0), omega (arith, f.1, l), omega (arith, f.2))

few_as : (n : ℕ) {d e : Due} → d ≡ e → Few n d → Few n e
few_as n e f = rw e at f

none_due : (p : ℕ) (m : List ℕ) → Few 0 (due_of (reports p m 0))
unfolding reports due_of part_of gathered flat
none_due p m = (omega arith, omega arith, omega arith)

due_few : (p : ℕ) (m : List ℕ) (k : ℕ) → k ≤ entry_count → Few k (due_of (reports p m k))
due_few p m zero h = none_due p m
due_few p m (suc k) h =
    let f = few_as (k + 1) (due_next p m k) (few_more p m k k (due_of (reports p m k)) (omega arith) (due_few p m k (omega arith))) in
    rw (add-one k) at f

-- so that one entry more can be counted
pub few_before : (p : ℕ) (m : List ℕ) (k : ℕ) (d : Due) → k < entry_count → d ≡ due_of (reports p m k) → Few 18 d
few_before p m k d h e =
    let f = due_few p m k (omega (arith, h)) in
    few_as 18 (sym e) (omega (arith, f.0), omega (arith, f.1), omega (arith, f.2))

-- every report has its record
recorded : List Answer → ℕ
recorded rs = length (gathered rs).values + length (gathered rs).read_errors

recorded_append : (a b : List Answer) → recorded (a ++ b) ≡ recorded a + recorded b
unfolding recorded
recorded_append a b =
    rw (gathered-append a b) (omega (arith, length-append (gathered a).values (gathered b).values, length-append (gathered a).read_errors (gathered b).read_errors))

recorded_one : (p : ℕ) (m : List ℕ) (k : ℕ) → recorded (due_at p m k) ≡ length (due_at p m k)
unfolding recorded due_at report gathered record_of
recorded_one p m k = go (pending m k) (present m k)
  where
    go : (t b : Bool) → let rs = cond t (cond b (value (row_at k).name (body m k)) (read_error (row_at k).name (cause_absent p)) ∷ []) [] in
        length (gathered rs).values + length (gathered rs).read_errors ≡ length rs
    go false b = refl
    go true false = refl
    go true true = refl

recorded_all : (p : ℕ) (m : List ℕ) (k : ℕ) → recorded (reports p m k) ≡ length (reports p m k)
unfolding reports recorded gathered due_at
recorded_all p m zero = refl
recorded_all p m (suc k) =
    recorded_append (reports p m k) (due_at p m k) ∙ omega (arith, recorded_all p m k, recorded_one p m k, length-append (reports p m k) (due_at p m k))

-- so none is due exactly if none is counted
module _ (p : ℕ) (m : List ℕ) (d : Due) (e : d ≡ due_of (reports p m entry_count)) where
  counted-all : d.values + d.absent ≡ length (reports p m entry_count)
  unfolding due_of recorded
  counted-all = rw e (recorded_all p m entry_count)

  pub none_counted : d.values + d.absent ≡ 0 → nonempty (reports p m entry_count) ≡ false
  none_counted z = go (reports p m entry_count) (sym counted-all ∙ z)
    where
      go : (rs : List Answer) → length rs ≡ 0 → nonempty rs ≡ false
      go [] h = refl
      go (r ∷ rs) h = absurd (omega (arith, h))

  pub some_counted : d.values + d.absent ≢ 0 → nonempty (reports p m entry_count) ≡ true
  some_counted z = go (reports p m entry_count) (λ h. z (counted-all ∙ h))
    where
      go : (rs : List Answer) → length rs ≢ 0 → nonempty rs ≡ true
      go [] h = absurd (h refl)
      go (r ∷ rs) h = refl

-- ---- a notification in its five pieces

errors_long : (rs : List Answer) → length (part_of false rs) ≡ 3 * length (gathered rs).read_errors
unfolding part_of flat
errors_long rs = go (gathered rs).read_errors
  where
    go : (fs : List Failed) → length (flat failed_octets fs) ≡ 3 * length fs
    go [] = refl
    go (f ∷ fs) = omega (arith, go fs, failed-length f, length-append (failed_octets f) (flat failed_octets fs))

-- what is left behind the values, behind their count, behind the head
abbrev pub after_values : Due → List Answer → List ℕ
after_values d rs = (d.absent ∷ []) ++ part_of false rs

abbrev pub after_count : Due → List Answer → List ℕ
after_count d rs = part_of true rs ++ after_values d rs

abbrev pub after_head : Due → List Answer → List ℕ
after_head d rs = (d.values ∷ []) ++ after_count d rs

abbrev pub head_of : Due → List ℕ
head_of d = 3 ∷ be16 (2 + d.octets + 3 * d.absent)

module _ (p : ℕ) (m : List ℕ) (d : Due) (e : d ≡ due_of (reports p m entry_count)) where
  notification_pieces : notification p m ≡ head_of d ++ after_head d (reports p m entry_count)
  unfolding notification due_of part_of read_contents
  notification_pieces =
      let rs = reports p m entry_count in
      let n : length (read_contents (gathered rs)) ≡ 2 + length (part_of true rs) + 3 * length (gathered rs).read_errors = omega (arith, read_length (gathered rs), errors_long rs) in
      rw (e, n)

  -- its numbers fit their octets
  pub due_small : sound m ≡ true → (2 + d.octets + 3 * d.absent < 65536) × (d.values ≤ 255) × (d.absent ≤ 255)
  unfolding notification due_of part_of be16
  due_small s =
      let rs = reports p m entry_count in
      let f = few_as 19 (sym e) (due_few p m 19 (omega arith)) in
      let o : d.octets ≡ length (part_of true rs) = ap (λ (x : Due). x.octets) e in
      let a : d.absent ≡ length (gathered rs).read_errors = ap (λ (x : Due). x.absent) e in
      (omega (arith, notification-most p m s, o, a, read_length (gathered rs), errors_long rs), omega (arith, f.0), omega (arith, f.2))

  pub started : (out : List ℕ) → sound m ≡ true → 1600 ≤ length out → Left out 0 (notification p m) out 0 (head_of d ++ after_head d (reports p m entry_count))
  started out s h = left_as notification_pieces (left_start out 0 (notification p m) (omega (arith, notification-most p m s, h)))
