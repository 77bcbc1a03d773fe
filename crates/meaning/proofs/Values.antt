-- The values' rules once more, on octets: each test passes exactly if the octets are such, those of entry i at 7 i to 7 i + 6, and sums are sums over i.
use Prim.Native.Nat.{ℕ, zero, suc, ◌+◌, ◌*◌, ◌/◌, ◌%◌, ◌≤◌, ◌<◌}
use native.Mathlib.Omega.{arith}
use mathlib.Core.Path.{◌≡◌, refl, sym, ap, ◌∙◌}
use mathlib.Core.Logic.{◌↔◌}
use mathlib.Core.Bool.{true, ◌&&◌}
use mathlib.Core.List.{List, [], ◌∷◌}
use lib.ListN.{length, get_or, drop}
use lib.Seq.{get_or-take, get_or-drop}
use lib.Dec.{eqb, leb, ltb}
use borrow.Author.Tests.{leb-true, eqb-true, le-leb, eq-eqb}
use Rattle.meaning.specs.Octets.{octet, at16, at32, every}
use Rattle.meaning.specs.Table.{Row, free, within, time, entries, ratio}
use Rattle.meaning.specs.Block.{as_number_from, as_number, time_ok, cut_in, entries_of, interval, entry_ok, each_ok, list_ok, intervals, ratio_ok, cycle, keeps, permits}
use Rattle.meaning.proofs.Tests.{and_left, and_right, and_both, every_at}

-- ---- numbers of four octets and of one

-- what each of four octets is worth
abbrev pub four_at : List ℕ → ℕ → ℕ
four_at v i = octet v i * 16777216 + octet v (i + 1) * 65536 + octet v (i + 2) * 256 + octet v (i + 3)

pub four_octets_lem : (v : List ℕ) (i : ℕ) → at32 v i ≡ four_at v i
unfolding at32 at16
four_octets_lem v i =
    let e : i + 2 + 1 ≡ i + 3 = omega arith in
    rw e (omega arith)

pub number_one : (v : List ℕ) → length v ≡ 1 → as_number v ≡ octet v 0
unfolding as_number as_number_from
number_one [] h = omega arith
number_one (a ∷ []) h = omega arith
number_one (a ∷ b ∷ v) h = absurd (omega (arith, h))

pub number_four : (v : List ℕ) → length v ≡ 4 → as_number v ≡ four_at v 0
unfolding as_number as_number_from
number_four [] h = omega arith
number_four (a ∷ []) h = absurd (omega (arith, h))
number_four (a ∷ b ∷ []) h = absurd (omega (arith, h))
number_four (a ∷ b ∷ c ∷ []) h = absurd (omega (arith, h))
number_four (a ∷ b ∷ c ∷ d ∷ []) h = omega arith
number_four (a ∷ b ∷ c ∷ d ∷ e ∷ v) h = absurd (omega (arith, h))

-- ---- a sum over i

unfoldable pub sum_over : ℕ → (ℕ → ℕ) → ℕ
sum_over zero f = 0
sum_over (suc n) f = sum_over n f + f n

pub sum_same : (n : ℕ) (f g : ℕ → ℕ) → ((i : ℕ) → i < n → f i ≡ g i) → sum_over n f ≡ sum_over n g
unfolding sum_over
sum_same zero f g h = refl
sum_same (suc n) f g h = rw (sum_same n f g (λ i l. h i (omega arith)), h n (omega arith))

sum_front : (n : ℕ) (f : ℕ → ℕ) → sum_over (suc n) f ≡ f 0 + sum_over n (λ i. f (suc i))
unfolding sum_over
sum_front zero f = omega arith
sum_front (suc n) f = omega (arith, sum_front n f)

-- ---- an entry of a control list (RULES 4.22 to 4.25): the octets from k on

pub record EntryAt (v : List ℕ) (k : ℕ) : Type 0 where
  pub operation : octet v k ≤ 2
  pub five : octet v (k + 1) ≡ 5
  pub nonzero : 1 ≤ four_at v (k + 3)

entry_rule : (e : List ℕ) → entry_ok e ≡ true → EntryAt e 0
unfolding entry_ok interval
entry_rule e h =
    record {
      operation = leb-true _ _ (every_at _ 0 h);
      five = eqb-true _ _ (every_at _ 1 h);
      nonzero = rw (four_octets_lem e 3) at (leb-true 1 (at32 e 3) (every_at _ 2 h));
    }

rule_entry : (e : List ℕ) → EntryAt e 0 → entry_ok e ≡ true
unfolding entry_ok interval every
rule_entry e r =
    simp (le-leb (octet e 0) 2 r.operation, eq-eqb (octet e 1) 5 r.five, four_octets_lem e 3, le-leb 1 (four_at e 3) r.nonzero)

-- the octets of e stand in v from k on
abbrev Copied : List ℕ → List ℕ → ℕ → Type 0
Copied e v k = (j : ℕ) → j < 7 → octet e j ≡ octet v (k + j)

four_copied : (e v : List ℕ) (k : ℕ) → Copied e v k → four_at e 3 ≡ four_at v (k + 3)
four_copied e v k h =
    let a : k + 3 + 1 ≡ k + 4 = omega arith in
    let b : k + 3 + 2 ≡ k + 5 = omega arith in
    let c : k + 3 + 3 ≡ k + 6 = omega arith in
    rw (a, b, c, h 3 (omega arith), h 4 (omega arith), h 5 (omega arith), h 6 (omega arith))

first_copied : (e v : List ℕ) (k : ℕ) → Copied e v k → octet e 0 ≡ octet v k
first_copied e v k h = h 0 (omega arith) ∙ ap (λ (i : ℕ). octet v i) (omega arith)

entry_there : (e v : List ℕ) (k : ℕ) → Copied e v k → (EntryAt e 0 ↔ EntryAt v k)
entry_there e v k h =
    let a = first_copied e v k h in
    let b = h 1 (omega arith) in
    let c = four_copied e v k h in (
      λ r. record { operation = rw a at r.operation; five = sym b ∙ r.five; nonzero = rw c at r.nonzero },
      λ r. record { operation = rw a r.operation; five = b ∙ r.five; nonzero = rw c r.nonzero },
    )

-- ---- the entries of a list

length_cut : (n : ℕ) (v : List ℕ) → length (cut_in n v) ≡ n
unfolding cut_in
length_cut zero v = refl
length_cut (suc n) v = ap suc (length_cut n (drop 7 v))

cut_at : (n : ℕ) (v : List ℕ) (i : ℕ) → i < n → Copied (get_or (cut_in n v) i []) v (7 * i)
unfolding cut_in
cut_at zero v i h = absurd (omega arith)
cut_at (suc n) v zero h = λ j l. get_or-take 7 v j 0 l ∙ ap (λ (k : ℕ). octet v k) (omega arith)
cut_at (suc n) v (suc i) h = λ j l.
    cut_at n (drop 7 v) i (omega arith) j l ∙ get_or-drop 7 v (7 * i + j) 0 ∙ ap (λ (k : ℕ). octet v k) (omega arith)

each_at : (es : List (List ℕ)) → each_ok es ≡ true → (i : ℕ) → i < length es → entry_ok (get_or es i []) ≡ true
unfolding each_ok
each_at [] e i h = absurd (omega arith)
each_at (x ∷ es) e zero h = and_left _ _ e
each_at (x ∷ es) e (suc i) h = each_at es (and_right (entry_ok x) _ e) i (omega arith)

each_of : (es : List (List ℕ)) → ((i : ℕ) → i < length es → entry_ok (get_or es i []) ≡ true) → each_ok es ≡ true
unfolding each_ok
each_of [] h = refl
each_of (x ∷ es) h = and_both (h 0 (omega arith)) (each_of es (λ i l. h (suc i) (omega arith)))

pub entries_spelt : (n : ℕ) (v : List ℕ) → (each_ok (cut_in n v) ≡ true) ↔ ((i : ℕ) → i < n → EntryAt v (7 * i))
entries_spelt n v = (
  λ e i h. (entry_there (get_or (cut_in n v) i []) v (7 * i) (cut_at n v i h)).0 (entry_rule _ (each_at (cut_in n v) e i (rw (length_cut n v) h))),
  λ r. each_of (cut_in n v) (λ i h. let l = rw (length_cut n v) at h in rule_entry _ ((entry_there (get_or (cut_in n v) i []) v (7 * i) (cut_at n v i l)).1 (r i l))),
)

intervals_each : (es : List (List ℕ)) → intervals es ≡ sum_over (length es) (λ i. interval (get_or es i []))
unfolding intervals
intervals_each [] = unfold sum_over in refl
intervals_each (e ∷ es) = rw (intervals_each es) (sym (sum_front (length es) (λ i. interval (get_or (e ∷ es) i []))))

-- the intervals' sum, over as many entries as are cut
pub intervals_spelt : (n : ℕ) (v : List ℕ) → intervals (cut_in n v) ≡ sum_over n (λ i. four_at v (7 * i + 3))
unfolding interval
intervals_spelt n v =
    intervals_each (cut_in n v)
    ∙ ap (λ (k : ℕ). sum_over k (λ i. interval (get_or (cut_in n v) i []))) (length_cut n v)
    ∙ sum_same n _ _ (λ i h. four_octets_lem (get_or (cut_in n v) i []) 3 ∙ four_copied (get_or (cut_in n v) i []) v (7 * i) (cut_at n v i h))

-- ---- the rules

pub free_spelt : (v : List ℕ) → keeps free v ≡ true
unfolding keeps
free_spelt v = refl

pub octet_spelt : (a b : ℕ) (v : List ℕ) → length v ≡ 1 → keeps (within a b) v ≡ (leb a (octet v 0) && leb (octet v 0) b)
unfolding keeps
octet_spelt a b v h = rw (number_one v h)

pub number_spelt : (a b : ℕ) (v : List ℕ) → length v ≡ 4 → keeps (within a b) v ≡ (leb a (four_at v 0) && leb (four_at v 0) b)
unfolding keeps
number_spelt a b v h = rw (number_four v h)

pub time_spelt : (v : List ℕ) → keeps time v ≡ ltb (four_at v 6) 1000000000
unfolding keeps time_ok
time_spelt v = rw (four_octets_lem v 6)

pub ratio_spelt : (v : List ℕ) → keeps ratio v ≡ leb 1 (four_at v 4)
unfolding keeps ratio_ok
ratio_spelt v = rw (four_octets_lem v 4)

-- a control list: whole entries, each as the rule wants it
pub record ListRule (v : List ℕ) : Type 0 where
  pub sevens : length v % 7 ≡ 0
  pub entries : (i : ℕ) → i < length v / 7 → EntryAt v (7 * i)

pub list_spelt : (v : List ℕ) → (list_ok v ≡ true) ↔ ListRule v
unfolding list_ok entries_of
list_spelt v = (
  λ e.
      record { sevens = eqb-true _ _ (and_left _ _ e); entries = (entries_spelt (length v / 7) v).0 (and_right (eqb (length v % 7) 0) _ e) },
  λ r. and_both (eq-eqb _ _ r.sevens) ((entries_spelt (length v / 7) v).1 r.entries),
)

pub list-kept : (v : List ℕ) → keeps entries v ≡ list_ok v
unfolding keeps
list-kept v = refl

pub cycle_spelt : (v : List ℕ) → cycle v ≡ four_at v 0 * 1000000000 / four_at v 4
unfolding cycle
cycle_spelt v = rw (four_octets_lem v 0, four_octets_lem v 4)

-- a value that a row permits (RULES 4.1)
abbrev pub Permitted : Row → List ℕ → Type 0
Permitted r v = (r.least ≤ length v) × (length v ≤ r.most) × (keeps r.rule v ≡ true)

pub permits_opened : (r : Row) (v : List ℕ) → permits r v ≡ true → Permitted r v
unfolding permits
permits_opened r v e = (leb-true _ _ (every_at _ 0 e), leb-true _ _ (every_at _ 1 e), every_at _ 2 e)

pub permits_closed : (r : Row) (v : List ℕ) → Permitted r v → permits r v ≡ true
unfolding permits every
permits_closed r v h = simp (le-leb _ _ h.0, le-leb _ _ h.1, h.2)
