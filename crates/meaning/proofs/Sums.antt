-- Law 7: the wrapping sums are the plain sums modulo 65,536. And what the sums are worth: no single octet changed, and no two
-- neighbours exchanged, goes unseen.
use Prim.Native.Nat.{ℕ, ◌+◌, ◌%◌, ◌<◌}
use native.Mathlib.Nat.{add_assoc, add-mod, mod-add-mod}
use native.Mathlib.Omega.{arith}
use mathlib.Core.Path.{◌≡◌, refl, sym, ap, ap₂, ◌∙◌}
use mathlib.Core.List.{List, [], ◌∷◌, ◌++◌, append-nil}
use lib.ListN.{replicate}
use Rattle.meaning.specs.Octets.{at16, be16}
use Rattle.meaning.specs.Block.{Sums, sums_from, sums_of, sums}
use Rattle.meaning.proofs.Lists.{at16-be16, at16-second}

-- the sum of the octets
unfoldable pub total : List ℕ → ℕ
total [] = 0
total (x ∷ s) = x + total s

-- the sum of the first sums, one after each octet, where the first sum starts at a
unfoldable pub totals : ℕ → List ℕ → ℕ
totals a [] = 0
totals a (x ∷ s) = a + x + totals (a + x) s

sums_plain : (a b : ℕ) (s : List ℕ)
    → ((sums_from (a % 65536) (b % 65536) s).first ≡ (a + total s) % 65536) × ((sums_from (a % 65536) (b % 65536) s).second ≡ (b + totals a s) % 65536)
unfolding sums_from total totals
sums_plain a b [] = (omega arith, omega arith)
sums_plain a b (x ∷ s) =
    let p : (a % 65536 + x) % 65536 ≡ (a + x) % 65536 = mod-add-mod a 65536 x in
    let q : (b % 65536 + (a % 65536 + x) % 65536) % 65536 ≡ (b + (a + x)) % 65536 =
    ap (λ (n : ℕ). (b % 65536 + n) % 65536) p ∙ sym (add-mod b (a + x) 65536) in
    let e : sums_from (a % 65536) (b % 65536) (x ∷ s) ≡ sums_from ((a + x) % 65536) ((b + (a + x)) % 65536) s = ap₂ (λ (i j : ℕ). sums_from i j s) p q in
    let ih = sums_plain (a + x) (b + (a + x)) s in
    let c : a + x + total s ≡ a + (x + total s) = add_assoc a x (total s) in
    let d : b + (a + x) + totals (a + x) s ≡ b + (a + x + totals (a + x) s) = add_assoc b (a + x) (totals (a + x) s) in
    (ap (λ (r : Sums). r.first) e ∙ ih.0 ∙ ap (λ (n : ℕ). n % 65536) c, ap (λ (r : Sums). r.second) e ∙ ih.1 ∙ ap (λ (n : ℕ). n % 65536) d)

pub first_sum : (s : List ℕ) → (sums_of s).first ≡ total s % 65536
unfolding sums_of
first_sum s = (sums_plain 0 0 s).0 ∙ omega arith

pub second_sum : (s : List ℕ) → (sums_of s).second ≡ totals 0 s % 65536
unfolding sums_of
second_sum s = (sums_plain 0 0 s).1 ∙ omega arith

-- ---- a commit's value shows both sums

pub first-shown : (s : List ℕ) → at16 (sums s) 0 ≡ total s % 65536
unfolding sums
first-shown s =
    rw (first_sum s) (at16-be16 (total s % 65536) (be16 (sums_of s).second) (omega arith))

pub second-shown : (s : List ℕ) → at16 (sums s) 2 ≡ totals 0 s % 65536
unfolding sums
second-shown s =
    rw (second_sum s, ← append-nil (be16 (totals 0 s % 65536)))
    (at16-second (sums_of s).first (totals 0 s % 65536) [] (omega arith))

-- ---- what they are worth

total_append : (p q : List ℕ) → total (p ++ q) ≡ total p + total q
unfolding total
total_append [] q = omega arith
total_append (x ∷ p) q = omega (arith, total_append p q)

totals_append : (a : ℕ) (p q : List ℕ) → totals a (p ++ q) ≡ totals a p + totals (a + total p) q
unfolding total totals
totals_append a [] q = let e : a + 0 ≡ a = omega arith in rw e (omega arith)
totals_append a (x ∷ p) q =
    let e : a + (x + total p) ≡ a + x + total p = omega arith in
    rw e (omega (arith, totals_append (a + x) p q))

-- two blocks that differ in exactly one octet never have equal sums
pub one_octet_seen : (p q : List ℕ) (x y : ℕ) → x < 256 → y < 256 → sums (p ++ (x ∷ q)) ≡ sums (p ++ (y ∷ q)) → x ≡ y
unfolding total
one_octet_seen p q x y hx hy e =
    let h : total (p ++ (x ∷ q)) % 65536 ≡ total (p ++ (y ∷ q)) % 65536 =
    sym (first-shown (p ++ (x ∷ q))) ∙ ap (λ (s : List ℕ). at16 s 0) e ∙ first-shown (p ++ (y ∷ q)) in
    omega (arith, total_append p (x ∷ q), total_append p (y ∷ q))

-- nor do two that differ by two neighbours exchanged
pub exchange_seen : (p q : List ℕ) (x y : ℕ) → x < 256 → y < 256 → sums (p ++ (x ∷ y ∷ q)) ≡ sums (p ++ (y ∷ x ∷ q)) → x ≡ y
unfolding totals
exchange_seen p q x y hx hy e =
    let a : ℕ = 0 + total p in
    let h : totals 0 (p ++ (x ∷ y ∷ q)) % 65536 ≡ totals 0 (p ++ (y ∷ x ∷ q)) % 65536 =
    sym (second-shown (p ++ (x ∷ y ∷ q))) ∙ ap (λ (s : List ℕ). at16 s 2) e ∙ second-shown (p ++ (y ∷ x ∷ q)) in
    let c : a + x + y ≡ a + y + x = omega arith in
    let d : totals (a + x + y) q ≡ totals (a + y + x) q = ap (λ (n : ℕ). totals n q) c in
    omega (arith, totals_append 0 p (x ∷ y ∷ q), totals_append 0 p (y ∷ x ∷ q))

-- a block of 470 octets FF, at which both sums have wrapped
pub sums_wrap : sums (replicate 470 0xFF) ≡ 0xD4 ∷ 0x2A ∷ 0xAC ∷ 0xA3 ∷ []
unfolding sums sums_of sums_from be16
sums_wrap = refl
