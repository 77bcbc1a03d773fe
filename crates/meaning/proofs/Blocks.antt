-- A block's form and fit (RULES 8.1 to 8.5) once more, on the octets of a block of n entries: the test passes exactly if they are such.
use Prim.Native.Nat.{ℕ, ◌+◌, ◌-◌, ◌*◌, ◌/◌, ◌%◌, ◌≤◌, ◌<◌}
use native.Mathlib.Omega.{arith}
use mathlib.Core.Path.{◌≡◌, refl, sym, ap, ◌∙◌}
use mathlib.Core.Logic.{◌↔◌}
use mathlib.Core.Bool.{true}
use mathlib.Core.List.{List}
use lib.ListN.{length}
use borrow.Author.Tests.{leb-true, ltb-true, eqb-true, le-leb, lt-ltb, eq-eqb}
use Rattle.meaning.specs.Octets.{octet, at32, part, every}
use Rattle.meaning.specs.Table.{running}
use Rattle.meaning.specs.Block.{as_number, time_ok, entries_of, list_ok, intervals, ratio_ok, cycle, base_of, count_of, list_of, ratio_of, form_and_fit, keeps}
use Rattle.meaning.proofs.Lists.{part-octet, length_part}
use Rattle.meaning.proofs.Tests.{every_at}
use Rattle.meaning.proofs.Values.{four_at, four_octets_lem, number_four, sum_over, sum_same, EntryAt, intervals_spelt, ListRule, list_spelt, cycle_spelt}

-- ---- the statement

pub record BlockRule (b : List ℕ) (n : ℕ) : Type 0 where
  pub long : length b ≡ 22 + 7 * n
  pub at_least_one : 1 ≤ n
  pub at_most : n ≤ 64
  pub nanoseconds : four_at b 6 < 1000000000
  pub holds_count : four_at b 10 ≡ n
  pub entries : (i : ℕ) → i < n → EntryAt b (14 + 7 * i)
  pub denominator : 1 ≤ four_at b (18 + 7 * n)
  pub fit : sum_over n (λ i. four_at b (17 + 7 * i)) ≤ four_at b (14 + 7 * n) * 1000000000 / four_at b (18 + 7 * n)

-- ---- octets of a part

pub four_part : (s : List ℕ) (i n j k : ℕ) → j + 3 < n → i + j ≡ k → four_at (part s i n) j ≡ four_at s k
four_part s i n j k h e =
    let at : (d : ℕ) → j + d < n → octet (part s i n) (j + d) ≡ octet s (k + d) =
    λ d l. part-octet s i n (j + d) l ∙ ap (λ (l : ℕ). octet s l) (omega arith) in
    let first : octet (part s i n) j ≡ octet s k = part-octet s i n j (omega arith) ∙ ap (λ (l : ℕ). octet s l) e in
    rw (first, at 1 (omega arith), at 2 (omega arith), at 3 (omega arith))

entry_part : (s : List ℕ) (i n j k : ℕ) → j + 6 < n → i + j ≡ k → (EntryAt (part s i n) j ↔ EntryAt s k)
entry_part s i n j k h e =
    let a : octet (part s i n) j ≡ octet s k = part-octet s i n j (omega arith) ∙ ap (λ (l : ℕ). octet s l) e in
    let b : octet (part s i n) (j + 1) ≡ octet s (k + 1) = part-octet s i n (j + 1) (omega arith) ∙ ap (λ (l : ℕ). octet s l) (omega arith) in
    let c : four_at (part s i n) (j + 3) ≡ four_at s (k + 3) = four_part s i n (j + 3) (k + 3) (omega arith) (omega arith) in (
      λ r. record { operation = rw a at r.operation; five = sym b ∙ r.five; nonzero = rw c at r.nonzero },
      λ r. record { operation = rw a r.operation; five = b ∙ r.five; nonzero = rw c r.nonzero },
    )

-- ---- the four values of a block of n entries

module _ (b : List ℕ) (n : ℕ) (h : length b ≡ 22 + 7 * n) where
  base_four : four_at (base_of b) 6 ≡ four_at b 6
  unfolding base_of
  base_four = four_part b 0 10 6 6 (omega arith) (omega arith)

  count-number : as_number (count_of b) ≡ four_at b 10
  unfolding count_of
  count-number = number_four (part b 10 4) (length_part b 10 4 (omega arith)) ∙ four_part b 10 4 0 10 (omega arith) (omega arith)

  pub list_length : length (list_of b) ≡ 7 * n
  unfolding list_of
  list_length = length_part b 14 (length b - 22) (omega arith) ∙ omega arith

  pub list_count : length (list_of b) / 7 ≡ n
  list_count = omega (arith, list_length)

  ratio_four : (j : ℕ) → j + 3 < 8 → four_at (ratio_of b) j ≡ four_at b (14 + 7 * n + j)
  unfolding ratio_of
  ratio_four j l = four_part b (length b - 8) 8 j (14 + 7 * n + j) l (omega arith)

  ratio-first : four_at (ratio_of b) 0 ≡ four_at b (14 + 7 * n)
  ratio-first = ratio_four 0 (omega arith) ∙ ap (four_at b) (omega arith)

  ratio-second : four_at (ratio_of b) 4 ≡ four_at b (18 + 7 * n)
  ratio-second = ratio_four 4 (omega arith) ∙ ap (four_at b) (omega arith)

  list_entry : (i : ℕ) → i < n → (EntryAt (list_of b) (7 * i) ↔ EntryAt b (14 + 7 * i))
  unfolding list_of
  list_entry i l = entry_part b 14 (length b - 22) (7 * i) (14 + 7 * i) (omega arith) (omega arith)

  list-intervals : intervals (entries_of (list_of b)) ≡ sum_over n (λ i. four_at b (17 + 7 * i))
  unfolding entries_of list_of
  list-intervals =
      intervals_spelt (length (list_of b) / 7) (list_of b)
      ∙ ap (λ (k : ℕ). sum_over k (λ i. four_at (list_of b) (7 * i + 3))) list_count
      ∙ sum_same n _ _ (λ i l. four_part b 14 (length b - 22) (7 * i + 3) (17 + 7 * i) (omega arith) (omega arith))

  pub block-cycle : cycle (ratio_of b) ≡ four_at b (14 + 7 * n) * 1000000000 / four_at b (18 + 7 * n)
  block-cycle = cycle_spelt (ratio_of b) ∙ rw (ratio-first, ratio-second)

-- ---- the law

-- as many entries as the length gives
block-count : (b : List ℕ) → form_and_fit b ≡ true → length b ≡ 22 + 7 * ((length b - 22) / 7)
unfolding form_and_fit list_of
block-count b e =
    let long : 22 ≤ length b = leb-true _ _ (every_at _ 0 e) in
    let l : length (part b 14 (length b - 22)) ≡ length b - 22 = length_part b 14 (length b - 22) (omega arith) in
    let sevens : length (part b 14 (length b - 22)) % 7 ≡ 0 = ((list_spelt (part b 14 (length b - 22))).0 (every_at _ 3 e)).sevens in
    omega arith

block_opened : (b : List ℕ) (n : ℕ) → length b ≡ 22 + 7 * n → form_and_fit b ≡ true → BlockRule b n
unfolding form_and_fit time_ok ratio_ok
block_opened b n h e =
    let c : as_number (count_of b) ≡ four_at b 10 = count-number b n h in
    let l : length (list_of b) / 7 ≡ n = list_count b n h in
    let most : as_number (count_of b) ≤ 64 = leb-true _ _ (every_at _ 2 e) in
    let holds : as_number (count_of b) ≡ length (list_of b) / 7 = eqb-true _ _ (every_at _ 5 e) in
    let one : 1 ≤ length (list_of b) / 7 = leb-true _ _ (every_at _ 6 e) in
    let r : ListRule (list_of b) = (list_spelt (list_of b)).0 (every_at _ 3 e) in
    let t : at32 (base_of b) 6 < 1000000000 = ltb-true _ _ (every_at _ 1 e) in
    let d : 1 ≤ at32 (ratio_of b) 4 = leb-true _ _ (every_at _ 4 e) in
    let f : intervals (entries_of (list_of b)) ≤ cycle (ratio_of b) = leb-true _ _ (every_at _ 7 e) in
    record {
      long = h;
      at_least_one = omega arith;
      at_most = omega arith;
      nanoseconds = rw (four_octets_lem (base_of b) 6, base_four b n h) at t;
      holds_count = omega arith;
      entries = λ i k. (list_entry b n h i k).0 (r.entries i (omega arith));
      denominator = rw (four_octets_lem (ratio_of b) 4, ratio-second b n h) at d;
      fit = rw (list-intervals b n h, block-cycle b n h) at f;
    }

pub form_spelt : (b : List ℕ) → form_and_fit b ≡ true → (n : ℕ) × BlockRule b n
form_spelt b e = ((length b - 22) / 7, block_opened b _ (block-count b e) e)

pub spelt_form : (b : List ℕ) (n : ℕ) → BlockRule b n → form_and_fit b ≡ true
unfolding form_and_fit time_ok ratio_ok every
spelt_form b n r =
    let h = r.long in
    let l : length (list_of b) / 7 ≡ n = list_count b n h in
    let w : list_ok (list_of b) ≡ true =
    (list_spelt (list_of b)).1 (record { sevens = omega (arith, list_length b n h); entries = λ i k. (list_entry b n h i (omega arith)).1 (r.entries i (omega arith)) }) in
    simp (
      le-leb 22 (length b) (omega arith),
      four_octets_lem (base_of b) 6,
      base_four b n h,
      lt-ltb _ _ r.nanoseconds,
      count-number b n h,
      r.holds_count,
      le-leb n 64 r.at_most,
      w,
      four_octets_lem (ratio_of b) 4,
      ratio-second b n h,
      le-leb _ _ r.denominator,
      l,
      eq-eqb n n refl,
      le-leb 1 n r.at_least_one,
      list-intervals b n h,
      block-cycle b n h,
      le-leb _ _ r.fit,
    )

-- what a running block has to keep is its form and fit
pub running-kept : (b : List ℕ) → keeps running b ≡ form_and_fit b
unfolding keeps
running-kept b = refl
