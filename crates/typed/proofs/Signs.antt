-- What an octet is, by where it lies; a digit is under 16.
use Prim.Native.Nat.{ℕ, ◌+◌, ◌-◌, ◌*◌, ◌/◌, ◌%◌, ◌≤◌, ◌<◌}
use Prim.Native.Char.{Char, code}
use native.Mathlib.Omega.{arith}
use mathlib.Core.Path.{◌≡◌, refl, sym, ap, subst, ◌∙◌}
use mathlib.Core.Bool.{Bool, true, false, cond, and-false}
use mathlib.Core.Logic.{◌⊎◌, inl, inr}
use lib.Bits.{bit_or, or_add_and, and_le_l, and_le_r}
use lib.Dec.{eqb, leb, ltb}
use borrow.Author.Tests.{le-leb, lt-leb, leb-true, eqb-true, lt-ltb, le-ltb, ne_eqb}
use Rattle.meaning.specs.Octets.{below}
use Rattle.meaning.proofs.Tests.{and_left, and_right, not-true, below_at}
use Rattle.typed.specs.declared.Sign.{Sign}
use Rattle.typed.specs.declared.Sign.TheVariants.{Hex, Space, Dash, Stray}
use Rattle.typed.specs.Signs.{between, is_blank, sign_of, decodes}

inside : (a b : Char) (c : ℕ) → code a ≤ c → c ≤ code b → between a b c ≡ true
inside a b c h k = rw (le-leb (code a) c h, le-leb c (code b) k)

before : (a b : Char) (c : ℕ) → c < code a → between a b c ≡ false
before a b c h = rw (lt-leb (code a) c h)

behind : (a b : Char) (c : ℕ) → code b < c → between a b c ≡ false
behind a b c h = rw (lt-leb c (code b) h, and-false)

pub decimal : (c : ℕ) → 48 ≤ c → c ≤ 57 → sign_of c ≡ Hex (c - 48)
unfolding sign_of
decimal c h k = rw (inside "0" "9" c h k)

pub small_letter : (c : ℕ) → 97 ≤ c → c ≤ 102 → sign_of c ≡ Hex (c - 97 + 10)
unfolding sign_of
small_letter c h k = rw (behind "0" "9" c (omega arith), inside "a" "f" c h k)

pub capital : (c : ℕ) → 65 ≤ c → c ≤ 70 → sign_of c ≡ Hex (c - 65 + 10)
unfolding sign_of
capital c h k = rw (behind "0" "9" c (omega arith), before "a" "f" c (omega arith), inside "A" "F" c h k)

-- ---- a digit is small

abbrev pub SmallSign : Sign → Type 0
SmallSign (Hex d) = d < 16
SmallSign Space = Unit {0}
SmallSign Dash = Unit {0}
SmallSign Stray = Unit {0}

either : (b : Bool) (s t : Sign) → (b ≡ true → SmallSign s) → SmallSign t → SmallSign (cond b s t)
either true s t f g = f refl
either false s t f g = g

-- the digit that lies between two characters
offset : (a b : Char) (c k : ℕ) → code b + k < code a + 16 → between a b c ≡ true → c - code a + k < 16
offset a b c k h e =
    omega (arith, leb-true (code a) c (and_left _ _ e), leb-true c (code b) (and_right (leb (code a) c) _ e))

pub small_sign : (c : ℕ) → SmallSign (sign_of c)
unfolding sign_of
small_sign c =
    either (between "0" "9" c) _ _ (λ e. omega (arith, offset "0" "9" c 0 (omega arith) e))
    (either (between "a" "f" c) _ _ (offset "a" "f" c 10 (omega arith))
    (either (between "A" "F" c) _ _ (offset "A" "F" c 10 (omega arith))
    (either (is_blank c) _ _ (λ e. tt) (either (eqb c (code "-")) _ _ (λ e. tt) tt))))

-- ---- digits without a branch

abbrev pub decimal_of : ℕ → ℕ
decimal_of x = (x + 208) % 256 + ((x + 208) % 256 + 6) / 16 * 6

abbrev pub letter_of : ℕ → ℕ
letter_of x = (bit_or x 32 + 159) % 256 + 10

abbrev lesser : ℕ → ℕ
lesser x = cond (ltb (decimal_of x) (letter_of x)) (decimal_of x) (letter_of x)

each_decoded : below 256 (λ x. decodes (sign_of x) (lesser x)) ≡ true
unfolding below decodes sign_of is_blank
each_decoded = refl

module _ (x : ℕ) (h : x < 256) where
  pub by_decimal : decimal_of x < letter_of x → decodes (sign_of x) (decimal_of x) ≡ true
  by_decimal l = rw (lt-ltb (decimal_of x) (letter_of x) l) at (below_at 256 (λ y. decodes (sign_of y) (lesser y)) each_decoded x h)

  pub by_letter : letter_of x ≤ decimal_of x → decodes (sign_of x) (letter_of x) ≡ true
  by_letter l = rw (le-ltb (decimal_of x) (letter_of x) l) at (below_at 256 (λ y. decodes (sign_of y) (lesser y)) each_decoded x h)

pub decoded : (s : Sign) (v : ℕ) → decodes s v ≡ true → v < 16 → s ≡ Hex v
unfolding decodes
decoded (Hex d) v e h = ap Hex (sym (eqb-true v d e))
decoded Space v e h = absurd (omega (arith, leb-true 16 v e))
decoded Dash v e h = absurd (omega (arith, leb-true 16 v e))
decoded Stray v e h = absurd (omega (arith, leb-true 16 v e))

-- the three blanks, in the order in which a `match` tells them
pub is_space : {c : ℕ} → (c ≡ 9) ⊎ ((c ≡ 13) ⊎ (c ≡ 32)) → sign_of c ≡ Space
unfolding sign_of is_blank
is_space (inl e) = ap sign_of e
is_space (inr (inl e)) = ap sign_of e
is_space (inr (inr e)) = ap sign_of e

-- no digit, and none of the octets that a `match` names
abbrev pub Unnamed : ℕ → Type 0
Unnamed c = (c ≡ 32 → ⊥) × (c ≡ 9 → ⊥) × (c ≡ 13 → ⊥) × (c ≡ 45 → ⊥)

module _ (c v : ℕ) (e : decodes (sign_of c) v ≡ true) (h : 16 ≤ v) where
  no_digit : (d : ℕ) → sign_of c ≡ Hex d → ⊥
  unfolding decodes
  no_digit d f = omega (arith, eqb-true v d (rw f at e), h, rw f at (small_sign c))

  pub stray : Unnamed c → sign_of c ≡ Stray
  unfolding sign_of is_blank
  stray r =
      let d : between "0" "9" c ≡ false = not-true _ (λ t. no_digit (c - 48) (rw t)) in
      let l : between "a" "f" c ≡ false = not-true _ (λ t. no_digit (c - 97 + 10) (rw (d, t))) in
      let u : between "A" "F" c ≡ false = not-true _ (λ t. no_digit (c - 65 + 10) (rw (d, l, t))) in
      rw (d, l, u, ne_eqb c 32 r.0, ne_eqb c 9 r.1, ne_eqb c 13 r.2, ne_eqb c 45 r.3)

-- ---- octets of a line's text: a digit, a blank or `-`, and so not `#` nor a line feed

abbrev pub Known : Sign → Type 0
Known (Hex d) = Unit {0}
Known Space = Unit {0}
Known Dash = Unit {0}
Known Stray = ⊥

known_other : (c k : ℕ) (s : Sign) → sign_of k ≡ Stray → sign_of c ≡ s → Known s → c ≡ k → ⊥
known_other c k s f e n h = subst Known (sym e ∙ ap sign_of h ∙ f) n

pub no_hash : (c : ℕ) (s : Sign) → sign_of c ≡ s → Known s → c ≡ 35 → ⊥
unfolding sign_of is_blank
no_hash c s = known_other c 35 s refl

pub no_feed : (c : ℕ) (s : Sign) → sign_of c ≡ s → Known s → c ≡ 10 → ⊥
unfolding sign_of is_blank
no_feed c s = known_other c 10 s refl

-- two numbers that are digits together are digits
pub both_digits : (h d : ℕ) → bit_or h d ≤ 15 → (h < 16) × (d < 16)
both_digits h d k = (omega (arith, or_add_and h d, and_le_r h d), omega (arith, or_add_and h d, and_le_l h d))
