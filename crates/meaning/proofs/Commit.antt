-- A commit's conditions spelt out: on sound memory the test of a set of 8001 passes exactly if each of them holds.
use Prim.Native.Nat.{ℕ, ◌+◌, ◌-◌, ◌*◌, ◌/◌, ◌%◌, ◌≤◌, ◌<◌}
use native.Mathlib.Nat.{le-div_iff_mul-le}
use native.Mathlib.Omega.{arith}
use mathlib.Core.Path.{◌≡◌, refl, sym, ap, ◌∙◌}
use mathlib.Core.Logic.{◌↔◌}
use mathlib.Core.Bool.{true}
use mathlib.Core.List.{List, [], ◌∷◌, ◌++◌, append_assoc}
use lib.ListN.{length, take, length-append}
use lib.Dec.{eqb, leb, ltb}
use lib.Seq.{take_at, drop_at, take-length}
use borrow.Author.Tests.{leb-true, ltb-true, eqb-true, le-leb, lt-ltb, eq-eqb}
use Rattle.meaning.specs.Octets.{be16, part, every, same}
use Rattle.meaning.specs.Table.{row_at, rows, admin_base_time, admin_control_list_length, admin_control_list, admin_cycle_time, entry_count}
use Rattle.meaning.specs.Block.{as_number, time_ok, entries_of, list_ok, intervals, ratio_ok, cycle, sums, joined_block, base_of, count_of, list_of, ratio_of, form_and_fit, permits}
use Rattle.meaning.specs.Memory.{present, body, four_present}
use Rattle.meaning.specs.Step.{block, commits}
use Rattle.meaning.proofs.Tests.{every_at, same_refl}
use Rattle.meaning.proofs.Values.{four_at, four_octets_lem, number_four, sum_over, EntryAt, intervals_spelt, ListRule, list_spelt, cycle_spelt, permits_opened}
use Rattle.meaning.proofs.Sound.{Sound, entry_of, four_at_lem}
use Rattle.meaning.proofs.Kept.{committing}
use Rattle.meaning.proofs.Sums.{total, totals, first_sum, second_sum}

-- ---- a block's four values

module _ (b c l r : List ℕ) (hb : length b ≡ 10) (hc : length c ≡ 4) (hr : length r ≡ 8) where
  joined_length : length (joined_block b c l r) ≡ 22 + length l
  unfolding joined_block
  joined_length = omega (arith, length-append b (c ++ (l ++ r)), length-append c (l ++ r), length-append l r)

  base_joined : base_of (joined_block b c l r) ≡ b
  unfolding base_of joined_block part
  base_joined = take_at b (c ++ (l ++ r)) 10 hb

  count-joined : count_of (joined_block b c l r) ≡ c
  unfolding count_of joined_block part
  count-joined = rw (drop_at b (c ++ (l ++ r)) 10 hb) (take_at c (l ++ r) 4 hc)

  pub list-joined : list_of (joined_block b c l r) ≡ l
  unfolding list_of joined_block part
  list-joined =
      let n : length (b ++ (c ++ (l ++ r))) - 22 ≡ length l =
      omega (arith, length-append b (c ++ (l ++ r)), length-append c (l ++ r), length-append l r) in
      let e : b ++ (c ++ (l ++ r)) ≡ b ++ c ++ (l ++ r) = sym (append_assoc b c (l ++ r)) in
      rw (n, e, drop_at (b ++ c) (l ++ r) 14 (omega (arith, length-append b c))) (take_at l r (length l) refl)

  pub ratio-joined : ratio_of (joined_block b c l r) ≡ r
  unfolding ratio_of joined_block part
  ratio-joined =
      let n : length (b ++ (c ++ (l ++ r))) - 8 ≡ 14 + length l =
      omega (arith, length-append b (c ++ (l ++ r)), length-append c (l ++ r), length-append l r) in
      let e : b ++ (c ++ (l ++ r)) ≡ b ++ c ++ l ++ r = simp append_assoc in
      let k : length (b ++ c ++ l) ≡ 14 + length l = omega (arith, length-append b c, length-append (b ++ c) l) in
      rw (n, e, drop_at (b ++ c ++ l) r (14 + length l) k) (ap (λ (i : ℕ). take i r) (sym hr) ∙ take-length r)

  -- form and fit of the block, as tests of the four values
  pub form-joined : form_and_fit (joined_block b c l r)
      ≡ every
      (leb 22 (22 + length l)
      ∷ time_ok b
      ∷ leb (as_number c) 64
      ∷ list_ok l
      ∷ ratio_ok r
      ∷ eqb (as_number c) (length l / 7)
      ∷ leb 1 (length l / 7)
      ∷ leb (intervals (entries_of l)) (cycle r)
      ∷ [])
  unfolding form_and_fit
  form-joined = rw (base_joined, count-joined, list-joined, ratio-joined, joined_length)

-- ---- the values of sound memory that are present

module _ (m : List ℕ) (S : Sound m) (k : ℕ) (hk : k < entry_count) (p : present m k ≡ true) where
  pub body-permitted : permits (row_at k) (body m k) ≡ true
  unfolding present body
  body-permitted = rw p at (entry_of m S k hk).held

  body_fixed : (n : ℕ) → (row_at k).least ≡ n → (row_at k).most ≡ n → length (body m k) ≡ n
  body_fixed n a b =
      let h = permits_opened (row_at k) (body m k) body-permitted in
      omega arith

-- ---- the conditions

pub record Commits (m v : List ℕ) : Type 0 where
  pub base_present : present m admin_base_time ≡ true
  pub count_present : present m admin_control_list_length ≡ true
  pub list_present : present m admin_control_list ≡ true
  pub ratio_present : present m admin_cycle_time ≡ true
  pub four_octets : length v ≡ 4
  pub nanoseconds : four_at (body m admin_base_time) 6 < 1000000000
  pub sevens : length (body m admin_control_list) % 7 ≡ 0
  pub entries : (i : ℕ) → i < length (body m admin_control_list) / 7 → EntryAt (body m admin_control_list) (7 * i)
  pub holds_count : four_at (body m admin_control_list_length) 0 ≡ length (body m admin_control_list) / 7
  pub at_least_one : 1 ≤ length (body m admin_control_list) / 7
  pub at_most : length (body m admin_control_list) / 7 ≤ 64
  pub denominator : 1 ≤ four_at (body m admin_cycle_time) 4
  pub fit : sum_over (length (body m admin_control_list) / 7) (λ i. four_at (body m admin_control_list) (7 * i + 3)) ≤ four_at (body m admin_cycle_time) 0 * 1000000000 / four_at (body m admin_cycle_time) 4
  pub sums_agree : v ≡ be16 (total (block m) % 65536) ++ be16 (totals 0 (block m) % 65536)

sums_plain_value : (s : List ℕ) → sums s ≡ be16 (total s % 65536) ++ be16 (totals 0 s % 65536)
unfolding sums
sums_plain_value s = rw (first_sum s, second_sum s)

module _ (m v : List ℕ) (S : Sound m) where
  abbrev base : List ℕ
  base = body m admin_base_time

  abbrev count : List ℕ
  count = body m admin_control_list_length

  abbrev list : List ℕ
  list = body m admin_control_list

  abbrev ratio' : List ℕ
  ratio' = body m admin_cycle_time

  -- the block's form and fit in the four values, where they are present
  block-form : four_present m ≡ true → form_and_fit (block m)
      ≡ every
      (leb 22 (22 + length list)
      ∷ ltb (four_at base 6) 1000000000
      ∷ leb (four_at count 0) 64
      ∷ list_ok list
      ∷ leb 1 (four_at ratio' 4)
      ∷ eqb (four_at count 0) (length list / 7)
      ∷ leb 1 (length list / 7)
      ∷ leb (sum_over (length list / 7) (λ i. four_at list (7 * i + 3))) (four_at ratio' 0 * 1000000000 / four_at ratio' 4)
      ∷ [])
  unfolding block row_at rows time_ok ratio_ok entries_of
  block-form f =
      let c : length count ≡ 4 = body_fixed m S admin_control_list_length (omega arith) (four_at_lem m 1 f) 4 refl refl in
      form-joined base count list ratio'
      (body_fixed m S admin_base_time (omega arith) (four_at_lem m 0 f) 10 refl refl)
      c
      (body_fixed m S admin_cycle_time (omega arith) (four_at_lem m 3 f) 8 refl refl)
      ∙ rw (four_octets_lem base 6, number_four count c, four_octets_lem ratio' 4, intervals_spelt (length list / 7) list, cycle_spelt ratio')

  pub commits_spelt : commits m v ≡ true → Commits m v
  commits_spelt e =
      let t = committing m v e in
      let f = t.four in
      let g = sym (block-form f) ∙ t.form in
      let n : four_at count 0 ≡ length list / 7 = eqb-true _ _ (every_at _ 5 g) in
      let k : four_at count 0 ≤ 64 = leb-true _ _ (every_at _ 2 g) in
      let w : ListRule list = (list_spelt list).0 (every_at _ 3 g) in
      record {
        base_present = four_at_lem m 0 f;
        count_present = four_at_lem m 1 f;
        list_present = four_at_lem m 2 f;
        ratio_present = four_at_lem m 3 f;
        four_octets = t.four_octets;
        nanoseconds = ltb-true _ _ (every_at _ 1 g);
        sevens = w.sevens;
        entries = w.entries;
        holds_count = n;
        at_least_one = leb-true _ _ (every_at _ 6 g);
        at_most = omega arith;
        denominator = leb-true _ _ (every_at _ 4 g);
        fit = leb-true _ _ (every_at _ 7 g);
        sums_agree = t.sums_agree ∙ sums_plain_value (block m);
      }

  spelt_form : four_present m ≡ true → Commits m v → form_and_fit (block m) ≡ true
  unfolding every
  spelt_form f c =
      block-form f
      ∙ simp (
        le-leb 22 (22 + length list) (omega arith),
        lt-ltb _ _ c.nanoseconds,
        le-leb (four_at count 0) 64 (omega (arith, c.holds_count, c.at_most)),
        (list_spelt list).1 (record { sevens = c.sevens; entries = c.entries }),
        le-leb _ _ c.denominator,
        eq-eqb _ _ c.holds_count,
        le-leb _ _ c.at_least_one,
        le-leb _ _ c.fit,
      )

  spelt_four : Commits m v → four_present m ≡ true
  unfolding four_present every
  spelt_four c = simp (c.base_present, c.count_present, c.list_present, c.ratio_present)

  pub spelt_commits : Commits m v → commits m v ≡ true
  unfolding commits every
  spelt_commits c =
      let f = spelt_four c in
      let e : v ≡ sums (block m) = c.sums_agree ∙ sym (sums_plain_value (block m)) in
      let s : same v (sums (block m)) ≡ true = ap (λ (w : List ℕ). same w (sums (block m))) e ∙ same_refl (sums (block m)) in
      simp (f, eq-eqb _ _ c.four_octets, spelt_form f c, s)

-- ---- the quotient of RULES 8.5 decides as the product would, which may not fit a register

pub quotient_decides : (s n d : ℕ) → 1 ≤ d → (s ≤ n * 1000000000 / d) ↔ (s * d ≤ n * 1000000000)
quotient_decides s n d h = le-div_iff_mul-le h
