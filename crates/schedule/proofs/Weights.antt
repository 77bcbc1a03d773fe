-- The two sums by weights: the second sum adds each octet as often as octets follow it, and once more. And the sums over
-- parts one after another.
use Rattle.std.proofs.Common.{◌≡◌, ℕ, suc, ◌+◌, ◌-◌, ◌*◌, ◌/◌, ◌%◌, ◌<◌, List, [], ◌∷◌, ◌++◌, length, get_or, drop, sym, refl, ap, ◌∙◌, ap₂, mod-eq_of_lt, add-mul, mul-suc, mul-add, mul_left_comm, add-one, arith, length-drop, drop-cons}
use native.Mathlib.Nat.{mod-add-mod, mod-add-div, add-mod}
use Rattle.meaning.specs.Block.{Sums, sums_from, sums_of, joined_block}

-- ---- sums over parts one after another

pub sums-append : (a b : ℕ) (p q : List ℕ) → sums_from a b (p ++ q) ≡ sums_from (sums_from a b p).first (sums_from a b p).second q
unfolding sums_from
sums-append a b [] q = refl
sums-append a b (x ∷ p) q = sums-append ((a + x) % 65536) ((b + (a + x) % 65536) % 65536) p q

-- where the sums of a part are in hand, the sums that go on from them are those of the parts joined
pub going_on : (a b : ℕ) (p q : List ℕ) {a' b' : ℕ} → (a' ≡ (sums_from a b p).first) × (b' ≡ (sums_from a b p).second) → sums_from a' b' q ≡ sums_from a b (p ++ q)
going_on a b p q h = ap₂ (λ (i j : ℕ). sums_from i j q) h.0 h.1 ∙ sym (sums-append a b p q)

-- four values summed one after another are summed as the block that they make
pub four_sums : (b c l r : List ℕ) {i₁ j₁ i₂ j₂ i₃ j₃ : ℕ}
    → (i₁ ≡ (sums_of b).first) × (j₁ ≡ (sums_of b).second)
    → (i₂ ≡ (sums_from i₁ j₁ c).first) × (j₂ ≡ (sums_from i₁ j₁ c).second)
    → (i₃ ≡ (sums_from i₂ j₂ l).first) × (j₃ ≡ (sums_from i₂ j₂ l).second)
    → sums_from i₃ j₃ r ≡ sums_of (joined_block b c l r)
unfolding sums_of joined_block
four_sums b c l r {i₁} {j₁} {i₂} {j₂} h₁ h₂ h₃ =
    going_on i₂ j₂ l r h₃ ∙ going_on i₁ j₁ c (l ++ r) h₂ ∙ going_on 0 0 b (c ++ (l ++ r)) h₁

-- ---- the sums by weights

unfoldable pub total : List ℕ → ℕ
total [] = 0
total (x ∷ s) = x + total s

unfoldable pub weighed : List ℕ → ℕ
weighed [] = 0
weighed (x ∷ s) = x * suc (length s) + weighed s

plain : (a b : ℕ) (s : List ℕ)
    → ((sums_from (a % 65536) (b % 65536) s).first ≡ (a + total s) % 65536)
    × ((sums_from (a % 65536) (b % 65536) s).second ≡ (b + (a * length s + weighed s)) % 65536)
unfolding sums_from total weighed
plain a b [] = (omega arith, omega arith)
plain a b (x ∷ s) =
    let p : (a % 65536 + x) % 65536 ≡ (a + x) % 65536 = mod-add-mod a 65536 x in
    let q : (b % 65536 + (a % 65536 + x) % 65536) % 65536 ≡ (b + (a + x)) % 65536 =
    ap (λ (n : ℕ). (b % 65536 + n) % 65536) p ∙ sym (add-mod b (a + x) 65536) in
    let e : sums_from (a % 65536) (b % 65536) (x ∷ s) ≡ sums_from ((a + x) % 65536) ((b + (a + x)) % 65536) s = ap₂ (λ (i j : ℕ). sums_from i j s) p q in
    let ih = plain (a + x) (b + (a + x)) s in
    let c : a + x + total s ≡ a + (x + total s) = omega arith in
    let d : b + (a + x) + ((a + x) * length s + weighed s) ≡ b + (a * suc (length s) + (x * suc (length s) + weighed s)) =
    omega (arith, add-mul a x (length s), mul-suc a (length s), mul-suc x (length s)) in
    (ap (λ (r : Sums). r.first) e ∙ ih.0 ∙ ap (λ (n : ℕ). n % 65536) c, ap (λ (r : Sums). r.second) e ∙ ih.1 ∙ ap (λ (n : ℕ). n % 65536) d)

module _ (a b : ℕ) (s : List ℕ) (ha : a < 65536) (hb : b < 65536) where
  pub first_is : (sums_from a b s).first ≡ (a + total s) % 65536
  first_is = rw (mod-eq_of_lt ha, mod-eq_of_lt hb) at (plain a b s).0

  pub second_is : (sums_from a b s).second ≡ (b + (a * length s + weighed s)) % 65536
  second_is = rw (mod-eq_of_lt ha, mod-eq_of_lt hb) at (plain a b s).1

-- ---- a turn of the loop

pub total_turn : (s : List ℕ) (i : ℕ) → i < length s → total (drop i s) ≡ get_or s i 0 + total (drop (i + 1) s)
unfolding total
total_turn s i h = rw (drop-cons s i 0 h, add-one)

pub weighed_turn : (s : List ℕ) (i : ℕ) → i < length s → weighed (drop i s) ≡ get_or s i 0 * (length s - i) + weighed (drop (i + 1) s)
unfolding weighed
weighed_turn s i h =
    let e : suc (length (drop (suc i) s)) ≡ length s - i = omega (arith, length-drop (suc i) s) in
    rw (drop-cons s i 0 h, add-one, e)

-- a factor may be reduced before a product
factor : (x k : ℕ) → (x * (k % 65536)) % 65536 ≡ (x * k) % 65536
factor x k =
    let q = k / 65536 in
    let r = k % 65536 in
    let e : x * (r + 65536 * q) ≡ x * k = ap (λ (n : ℕ). x * n) (mod-add-div k 65536) in
    omega (arith, e, mul-add x r (65536 * q), mul_left_comm x 65536 q)

-- what a sum with a product added, both reduced, comes to
pub added : (b x k w : ℕ) → ((b + (x * (k % 65536)) % 65536) % 65536 + w) % 65536 ≡ (b + (x * k + w)) % 65536
added b x k w = omega (arith, factor x k)
