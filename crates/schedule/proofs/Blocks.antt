-- Blocks: four values joined and cut apart again, form and fit by four values, what is left of it for values that their rows permit, the sums that a value spells.
use Rattle.std.proofs.Common.{◌≡◌, ℕ, ◌+◌, ◌-◌, ◌/◌, ◌%◌, ◌<◌, ◌≤◌, Bool, true, false, ◌&&◌, eqb, leb, ◌≢◌, List, [], ◌∷◌, ◌++◌, length, take, drop, sym, refl, ap, ◌∙◌, arith, length-append, length-drop, take-append-drop, take_all, drop-drop, eq-eqb, ne_eqb, eqb-true, le-leb, leb-true}
use mathlib.Core.Bool.{and-true}
use borrow.Author.Tests.{lt-leb}
use Rattle.meaning.specs.Octets.{octet, at16, be16, part, every, same}
use Rattle.meaning.specs.Table.{rows, row_at, admin_base_time, admin_control_list_length, admin_control_list, admin_cycle_time}
use Rattle.meaning.specs.Block.{as_number, time_ok, entries_of, each_ok, list_ok, intervals, ratio_ok, cycle, sums_of, sums, joined_block, list_of, ratio_of, form_and_fit, keeps, permits}
use Rattle.meaning.proofs.Lists.{be16-at16}
use Rattle.meaning.proofs.Sums.{first_sum, second_sum, first-shown, second-shown}
use Rattle.meaning.proofs.Tests.{and_left, and_right, and_both, every_at, alike, same_true, same_refl}
use Rattle.meaning.proofs.Values.{permits_opened}
use Rattle.meaning.proofs.Commit.{form-joined}
use Rattle.schedule.specs.Rules.{fit_together}

pub joined_length : (b c l r : List ℕ) → length (joined_block b c l r) ≡ length b + length c + length l + length r
unfolding joined_block
joined_length b c l r = omega (arith, length-append b (c ++ (l ++ r)), length-append c (l ++ r), length-append l r)

-- four octets are those of the two numbers that they spell
four_spelt : (v : List ℕ) → length v ≡ 4 → ((i : ℕ) → octet v i < 256) → v ≡ be16 (at16 v 0) ++ be16 (at16 v 2)
unfolding at16
four_spelt [] h o = absurd (omega (arith, h))
four_spelt (a ∷ []) h o = absurd (omega (arith, h))
four_spelt (a ∷ b ∷ []) h o = absurd (omega (arith, h))
four_spelt (a ∷ b ∷ c ∷ []) h o = absurd (omega (arith, h))
four_spelt (a ∷ b ∷ c ∷ d ∷ []) h o = rw (be16-at16 a b (o 0) (o 1), be16-at16 c d (o 2) (o 3))
four_spelt (a ∷ b ∷ c ∷ d ∷ e ∷ v) h o = absurd (omega (arith, h))

sums-octets : (b : List ℕ) → sums b ≡ be16 (sums_of b).first ++ be16 (sums_of b).second
unfolding sums
sums-octets b = refl

-- the two numbers of a value agree with the sums exactly where its octets do
pub sums_spelt : (v b : List ℕ) → length v ≡ 4 → ((i : ℕ) → octet v i < 256) → (eqb (at16 v 0) (sums_of b).first && eqb (at16 v 2) (sums_of b).second) ≡ same v (sums b)
sums_spelt v b h o =
    let p = (sums_of b).first in
    let q = (sums_of b).second in
    alike (eqb (at16 v 0) p && eqb (at16 v 2) q) (same v (sums b))
    (λ e.
    let x = eqb-true (at16 v 0) p (and_left _ _ e) in
    let y = eqb-true (at16 v 2) q (and_right (eqb (at16 v 0) p) _ e) in
    let z : v ≡ sums b = four_spelt v h o ∙ rw (x, y) (sym (sums-octets b)) in
    rw z (same_refl (sums b)))
    (λ e.
    let z = same_true v (sums b) e in
    and_both
    (eq-eqb _ _ (ap (λ (w : List ℕ). at16 w 0) z ∙ first-shown b ∙ sym (first_sum b)))
    (eq-eqb _ _ (ap (λ (w : List ℕ). at16 w 2) z ∙ second-shown b ∙ sym (second_sum b))))

-- ---- form and fit of a block by its four values

pub record Fit (b c l r : List ℕ) : Type 0 where
  pub time : time_ok b ≡ true
  pub held : eqb (as_number c) (length l / 7) ≡ true
  pub whole : eqb (length l % 7) 0 ≡ true
  pub each : each_ok (entries_of l) ≡ true
  pub fits : leb (intervals (entries_of l)) (cycle r) ≡ true
  pub denominator : ratio_ok r ≡ true
  pub least : 1 ≤ length l / 7
  pub most : length l / 7 ≤ 64

module _ (b c l r : List ℕ) (hb : length b ≡ 10) (hc : length c ≡ 4) (hr : length r ≡ 8) where
  pub fit_opened : form_and_fit (joined_block b c l r) ≡ true → Fit b c l r
  unfolding list_ok
  fit_opened e =
      let f = sym (form-joined b c l r hb hc hr) ∙ e in
      let n : as_number c ≡ length l / 7 = eqb-true _ _ (every_at _ 5 f) in
      let k : as_number c ≤ 64 = leb-true _ _ (every_at _ 2 f) in
      let w : (eqb (length l % 7) 0 && each_ok (entries_of l)) ≡ true = every_at _ 3 f in
      record {
        time = every_at _ 1 f;
        held = every_at _ 5 f;
        whole = and_left _ _ w;
        each = and_right (eqb (length l % 7) 0) _ w;
        fits = every_at _ 7 f;
        denominator = every_at _ 4 f;
        least = leb-true _ _ (every_at _ 6 f);
        most = omega arith;
      }

  pub fit_closed : Fit b c l r → form_and_fit (joined_block b c l r) ≡ true
  unfolding every list_ok
  fit_closed f =
      form-joined b c l r hb hc hr
      ∙ simp (
        le-leb 22 (22 + length l) (omega arith),
        f.time,
        le-leb (as_number c) 64 (omega (arith, eqb-true (as_number c) (length l / 7) f.held, f.most)),
        f.whole,
        f.each,
        f.denominator,
        f.held,
        le-leb _ _ f.least,
        f.fits,
      )

  -- without what is known of the length and the denominator
  fit_tests : ratio_ok r ≡ true → 1 ≤ length l / 7 → length l / 7 ≤ 64
      → (time_ok b && (eqb (as_number c) (length l / 7) && (eqb (length l % 7) 0 && (each_ok (entries_of l) && leb (intervals (entries_of l)) (cycle r))))) ≡ form_and_fit (joined_block b c l r)
  fit_tests d least most =
      alike _ (form_and_fit (joined_block b c l r))
      (λ e.
      let e₁ = and_right (time_ok b) _ e in
      let e₂ = and_right (eqb (as_number c) (length l / 7)) _ e₁ in
      let e₃ = and_right (eqb (length l % 7) 0) _ e₂ in
      fit_closed record {
        time = and_left _ _ e;
        held = and_left _ _ e₁;
        whole = and_left _ _ e₂;
        each = and_left _ _ e₃;
        fits = and_right (each_ok (entries_of l)) _ e₃;
        denominator = d;
        least = least;
        most = most;
      })
      (λ e.
      let f = fit_opened e in
      and_both f.time (and_both f.held (and_both f.whole (and_both f.each f.fits))))

  -- the same of what was found of each value
  pub fit_found : {t e y : Bool} {n s : ℕ} → t ≡ time_ok b → n ≡ as_number c → e ≡ each_ok (entries_of l) → s ≡ intervals (entries_of l) → y ≡ leb s (cycle r)
      → ratio_ok r ≡ true → 1 ≤ length l / 7 → length l / 7 ≤ 64
      → (t && (eqb n (length l / 7) && (eqb (length l % 7) 0 && (e && y)))) ≡ form_and_fit (joined_block b c l r)
  fit_found ft fn fe fs fy d least most = rw (ft, fn, fe, fy, fs) (fit_tests d least most)

-- ---- a block cut into its four values

pub split_joined : (b : List ℕ) → 22 ≤ length b
    → joined_block (take 10 b) (take (14 - 10) (drop 10 b)) (list_of b) (ratio_of b) ≡ b
unfolding joined_block list_of ratio_of part
split_joined b h =
    let n = length b in
    let e₁ : 10 + 4 ≡ 14 = refl in
    let e₂ : 14 + (n - 22) ≡ n - 8 = omega arith in
    let last : take 8 (drop (n - 8) b) ≡ drop (n - 8) b =
    take_all 8 (drop (n - 8) b) (simp length-drop (omega arith)) in
    let d₃ : take (n - 22) (drop 14 b) ++ drop (n - 8) b ≡ drop 14 b =
    ap (λ (t : List ℕ). take (n - 22) (drop 14 b) ++ t) (sym (drop-drop (n - 22) 14 b ∙ ap (λ (k : ℕ). drop k b) e₂))
    ∙ take-append-drop (n - 22) (drop 14 b) in
    let d₂ : take 4 (drop 10 b) ++ drop 14 b ≡ drop 10 b =
    ap (λ (t : List ℕ). take 4 (drop 10 b) ++ t) (sym (drop-drop 4 10 b)) ∙ take-append-drop 4 (drop 10 b) in
    rw (last, d₃, d₂) (take-append-drop 10 b)

in_order : (a b c : Bool) → (a && (b && c)) ≡ (b && (a && c))
in_order true b c = refl
in_order false true c = refl
in_order false false c = refl

-- ---- values that their rows permit: length and rule of each, and the block that they make

pub permitted_base : (b : List ℕ) → permits (row_at admin_base_time) b ≡ true → (length b ≡ 10) × (time_ok b ≡ true)
unfolding permits row_at rows keeps
permitted_base b p =
    let h = permits_opened (row_at admin_base_time) b p in
    (omega arith, every_at _ 2 p)

pub permitted-count : (c : List ℕ) → permits (row_at admin_control_list_length) c ≡ true → (length c ≡ 4) × (as_number c ≤ 64)
unfolding permits row_at rows keeps
permitted-count c p =
    let h = permits_opened (row_at admin_control_list_length) c p in
    (omega arith, leb-true _ _ (and_right (leb 0 (as_number c)) _ (every_at _ 2 p)))

pub permitted-list : (l : List ℕ) → permits (row_at admin_control_list) l ≡ true → (length l ≤ 448) × (list_ok l ≡ true)
unfolding permits row_at rows keeps
permitted-list l p = ((permits_opened (row_at admin_control_list) l p).1, every_at _ 2 p)

pub permitted-ratio : (r : List ℕ) → permits (row_at admin_cycle_time) r ≡ true → (length r ≡ 8) × (ratio_ok r ≡ true)
unfolding permits row_at rows keeps
permitted-ratio r p =
    let h = permits_opened (row_at admin_cycle_time) r p in
    (omega arith, every_at _ 2 p)

module _ (b c l r : List ℕ) (pb : permits (row_at admin_base_time) b ≡ true) (pc : permits (row_at admin_control_list_length) c ≡ true)
    (pl : permits (row_at admin_control_list) l ≡ true) (pr : permits (row_at admin_cycle_time) r ≡ true) where
  pub permitted-length : length (joined_block b c l r) ≡ 22 + length l
  permitted-length = omega (arith, joined_length b c l r, (permitted_base b pb).0, (permitted-count c pc).0, (permitted-ratio r pr).0)

  -- each keeps its rule, so form and fit is how they fit one another
  pub fit_is : fit_together c l r ≡ form_and_fit (joined_block b c l r)
  unfolding every fit_together
  fit_is =
      let hb = permitted_base b pb in
      let hc = permitted-count c pc in
      let hr = permitted-ratio r pr in
      rw (form-joined b c l r hb.0 hc.0 hr.0, le-leb 22 (22 + length l) (omega arith), hb.1, le-leb (as_number c) 64 hc.1, (permitted-list l pl).1, hr.1)
      (in_order (leb 1 (length l / 7)) (eqb (as_number c) (length l / 7)) (leb (intervals (entries_of l)) (cycle r) && true))

-- ---- how three values fit one another: with no entry, with another number in 0005, and by the intervals where there is neither

module _ (c l r : List ℕ) where
  pub fit_none : length l / 7 < 1 → fit_together c l r ≡ false
  unfolding fit_together every
  fit_none h = rw (lt-leb 1 (length l / 7) h)

  module _ {n : ℕ} (h : 1 ≤ length l / 7) (e : n ≡ as_number c) where
    pub fit_unheld : n ≢ length l / 7 → fit_together c l r ≡ false
    unfolding fit_together every
    fit_unheld u = rw (le-leb 1 (length l / 7) h, ne_eqb (as_number c) (length l / 7) (λ p. u (e ∙ p)))

    pub fit_held : n ≡ length l / 7 → fit_together c l r ≡ leb (intervals (entries_of l)) (cycle r)
    unfolding fit_together every
    fit_held u = rw (le-leb 1 (length l / 7) h, eq-eqb (as_number c) (length l / 7) (sym e ∙ u)) (and-true (leb (intervals (entries_of l)) (cycle r)))
