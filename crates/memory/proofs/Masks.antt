-- Flags kept by masks: what a mask makes of an octet of flags is what the flags say one by one. A mask is tried on the sixteen octets that there are.
use Prim.Native.Nat.{ℕ, ◌+◌, ◌*◌, ◌/◌, ◌%◌, ◌≤◌}
use native.Mathlib.Omega.{arith}
use native.Mathlib.Decide.{dec_le}
use mathlib.Core.Path.{◌≡◌, refl, sym, ap, ◌∙◌}
use mathlib.Core.Bool.{Bool, true, false, ◌&&◌, ◌||◌, not}
use mathlib.Core.List.{List, [], ◌∷◌}
use lib.Dec.{eqb, ltb}
use borrow.Author.Tests.{eqb-true, eq-eqb, ne_eqb, lt-ltb, le-ltb}
use Rattle.meaning.specs.Octets.{octet, below, splice}
use Rattle.meaning.specs.Memory.{present, subscribed, pending, in_flight, bit, flags, set_marks}
use Rattle.meaning.proofs.Tests.{below_at}
use Rattle.meaning.proofs.Contents.{flag_bits}

-- the mask h agrees with g, which is told the flags, on every octet of flags
abbrev pub masks : (ℕ → ℕ) → (Bool → Bool → Bool → Bool → ℕ) → Bool
masks h g = below 16 (λ f. eqb (h f) (g (eqb (f % 2) 1) (eqb (f / 2 % 2) 1) (eqb (f / 4 % 2) 1) (eqb (f / 8 % 2) 1)))

parity : (c b : ℕ) → (2 * c + b) % 2 ≡ b % 2
parity c b = omega arith

pub masked : (h : ℕ → ℕ) (g : Bool → Bool → Bool → Bool → ℕ) → masks h g ≡ true → (m : List ℕ) (k : ℕ)
    → h (octet m (6 * k + 2) % 16) ≡ g (present m k) (subscribed m k) (pending m k) (in_flight m k)
masked h g e m k =
    let f = octet m (6 * k + 2) in
    let b = flag_bits m k in
    let one : f % 16 % 2 ≡ f % 2 = omega arith in
    let half : f / 2 ≡ 2 * (4 * (f / 16)) + f % 16 / 2 = omega arith in
    let quarter : f / 4 ≡ 2 * (2 * (f / 16)) + f % 16 / 4 = omega arith in
    let eighth : f / 8 ≡ 2 * (f / 16) + f % 16 / 8 = omega arith in
    let two : f / 2 % 2 ≡ f % 16 / 2 % 2 = ap (λ (x : ℕ). x % 2) half ∙ parity (4 * (f / 16)) (f % 16 / 2) in
    let four : f / 4 % 2 ≡ f % 16 / 4 % 2 = ap (λ (x : ℕ). x % 2) quarter ∙ parity (2 * (f / 16)) (f % 16 / 4) in
    let eight : f / 8 % 2 ≡ f % 16 / 8 % 2 = ap (λ (x : ℕ). x % 2) eighth ∙ parity (f / 16) (f % 16 / 8) in
    eqb-true _ _ (below_at 16 (λ x. eqb (h x) (g (eqb (x % 2) 1) (eqb (x / 2 % 2) 1) (eqb (x / 4 % 2) 1) (eqb (x / 8 % 2) 1))) e (f % 16) (omega arith))
    ∙ rw (b.0, b.1, b.2, b.3, one, two, four, eight)

-- another presence, and pending where a change is due: the marks are kept, and pending is added where it is not among them
with_mask : Bool → Bool → ℕ → ℕ
with_mask p d f = f / 2 * 2 + bit p 1 + bit (d && eqb (f / 4 % 2) 0) 4

with_masks : (p d : Bool) → masks (with_mask p d) (λ _ s q i. flags p s (q || d) i) ≡ true
unfolding with_mask below flags bit
with_masks true true = refl
with_masks true false = refl
with_masks false true = refl
with_masks false false = refl

pub flags_with : (m : List ℕ) (k : ℕ) (p d : Bool) {f : ℕ} {a b : ℕ} → f ≡ octet m (6 * k + 2) % 16 → a ≡ bit p 1 → b ≡ bit (d && eqb (f / 4 % 2) 0) 4
    → f / 2 * 2 + a + b ≡ flags p (subscribed m k) (pending m k || d) (in_flight m k)
unfolding with_mask
flags_with m k p d e x y = rw (x, y, e) (masked (with_mask p d) (λ _ s q i. flags p s (q || d) i) (with_masks p d) m k)

-- subscribed: the two flags above it and the one below it are kept
subscribe_masks : masks (λ f. f / 4 * 4 + 2 + f % 2) (λ p _ q i. flags p true q i) ≡ true
unfolding below flags bit
subscribe_masks = refl

pub subscribe-flags : (m : List ℕ) (k : ℕ) {f : ℕ} → f ≡ octet m (6 * k + 2) % 16 → f / 4 * 4 + 2 + f % 2 ≡ flags (present m k) true (pending m k) (in_flight m k)
subscribe-flags m k e = rw e (masked (λ f. f / 4 * 4 + 2 + f % 2) (λ p _ q i. flags p true q i) subscribe_masks m k)

-- unsubscribed: the flag below it is kept
unsubscribe_masks : masks (λ f. f % 2) (λ p _ _ _. flags p false false false) ≡ true
unfolding below flags bit
unsubscribe_masks = refl

pub unsubscribe-flags : (m : List ℕ) (k : ℕ) {f : ℕ} → f ≡ octet m (6 * k + 2) % 16 → f % 2 ≡ flags (present m k) false false false
unsubscribe-flags m k e = rw e (masked (λ f. f % 2) (λ p _ _ _. flags p false false false) unsubscribe_masks m k)

-- the octet of flags replaced by one that says so sets the marks
pub marks_set : (m : List ℕ) (k : ℕ) (s q i : Bool) {f : ℕ} {m' : List ℕ} → m' ≡ splice m (6 * k + 2) (f ∷ []) → f ≡ flags (present m k) s q i → m' ≡ set_marks m k s q i
unfolding set_marks
marks_set m k s q i w e = w ∙ ap (λ (x : ℕ). splice m (6 * k + 2) (x ∷ [])) e

-- in flight is the highest flag, so the others alone are below it
pub none_high : (m : List ℕ) (k : ℕ) → ltb (octet m (6 * k + 2) % 16) 8 ≡ not (in_flight m k)
none_high m k = go (dec_le 8 (octet m (6 * k + 2) % 16))
  where
    go : Dec (8 ≤ octet m (6 * k + 2) % 16) → ltb (octet m (6 * k + 2) % 16) 8 ≡ not (in_flight m k)
    go (yes h) = le-ltb (octet m (6 * k + 2) % 16) 8 h ∙ ap not (sym ((flag_bits m k).3 ∙ eq-eqb (octet m (6 * k + 2) / 8 % 2) 1 (omega (arith, h))))
    go (no h) = lt-ltb (octet m (6 * k + 2) % 16) 8 (omega (arith, h)) ∙ ap not (sym ((flag_bits m k).3 ∙ ne_eqb (octet m (6 * k + 2) / 8 % 2) 1 (omega (arith, h))))
