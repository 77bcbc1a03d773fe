-- Values of a known length: the numbers that they spell, the quotient of two of them, an entry's first two octets as one.
use Prim.Native.Nat.{ℕ, ◌+◌, ◌*◌, ◌/◌, ◌≤◌, ◌<◌}
use native.Mathlib.Omega.{arith}
use mathlib.Core.Path.{◌≡◌, sym, ap, ◌∙◌}
use mathlib.Core.List.{List}
use mathlib.Core.Bool.{Bool, true, ◌&&◌, ◌||◌, and_assoc}
use mathlib.Core.Logic.{⊎_elim}
use lib.ListN.{length}
use lib.Dec.{eqb, leb}
use borrow.Author.Tests.{eqb-true, eq-eqb, leb-true, le-leb}
use Rattle.meaning.specs.Octets.{at32}
use Rattle.meaning.specs.Block.{as_number, cycle}
use Rattle.meaning.proofs.Tests.{and_left, and_right, and_both, or_cases, alike}
use Rattle.meaning.proofs.Values.{four_octets_lem, number_four}

pub number_read : (v : List ℕ) → length v ≡ 4 → as_number v ≡ at32 v 0
number_read v h = number_four v h ∙ sym (four_octets_lem v 0)

-- a length that is 1 or 4, and not 1
pub four_left : (n : ℕ) → (eqb n 1 || eqb n 4) ≡ true → (n ≡ 1 → ⊥) → n ≡ 4
four_left n h not-one = ⊎_elim (λ e. absurd (not-one (eqb-true n 1 e))) (λ e. eqb-true n 4 e) (or_cases (eqb n 1) (eqb n 4) h)

-- the quotient of a cycle's two numbers
pub quotient : (v : List ℕ) (n d : ℕ) → n ≡ at32 v 0 → d ≡ at32 v 4 → n * 1000000000 / d ≡ cycle v
unfolding cycle
quotient v n d e f = rw (e, f)

-- an entry's first two octets by one number, the low octet first
pub head_tests : (a b : ℕ) (t : Bool) → a < 256 → (leb 1280 (a + 256 * b) && (leb (a + 256 * b) 1282 && t)) ≡ (leb a 2 && (eqb b 5 && t))
head_tests a b t h =
    sym (and_assoc (leb 1280 (a + 256 * b)) (leb (a + 256 * b) 1282) t)
    ∙ ap (λ (u : Bool). u && t) (alike (leb 1280 (a + 256 * b) && leb (a + 256 * b) 1282) (leb a 2 && eqb b 5) forth back)
    ∙ and_assoc (leb a 2) (eqb b 5) t
  where
    forth : (leb 1280 (a + 256 * b) && leb (a + 256 * b) 1282) ≡ true → (leb a 2 && eqb b 5) ≡ true
    forth e =
        let l : 1280 ≤ a + 256 * b = leb-true _ _ (and_left _ _ e) in
        let m : a + 256 * b ≤ 1282 = leb-true _ _ (and_right (leb 1280 (a + 256 * b)) _ e) in
        and_both (le-leb a 2 (omega arith)) (eq-eqb b 5 (omega arith))

    back : (leb a 2 && eqb b 5) ≡ true → (leb 1280 (a + 256 * b) && leb (a + 256 * b) 1282) ≡ true
    back e =
        let l : a ≤ 2 = leb-true _ _ (and_left _ _ e) in
        let m : b ≡ 5 = eqb-true _ _ (and_right (leb a 2) _ e) in
        and_both (le-leb 1280 (a + 256 * b) (omega arith)) (le-leb (a + 256 * b) 1282 (omega arith))
