-- Whole records, with no bound on their number: each leaves fewer octets behind, so the octets are bound enough.
use Prim.Native.Nat.{ℕ, zero, suc, ◌≤◌}
use native.Mathlib.Omega.{arith}
use mathlib.Core.Path.{◌≡◌, refl, ap}
use mathlib.Core.List.{List, [], ◌∷◌}
use mathlib.Core.Option.{Option, none, some}
use lib.ListN.{length, drop, length-drop}
use Rattle.meaning.specs.Octets.{at16}
use Rattle.meaning.specs.Reply.{Held}
use Rattle.meaning.specs.Capture.{then_read, sized, front_held, until_end_in, until_end}
use Rattle.meaning.proofs.Walked.{Leaving, then_same, sized_leaves}

pub held_leaves : (w x : ℕ) (t : List ℕ) → Leaving (length t) (front_held w (x ∷ t))
unfolding front_held then_read
held_leaves w x t = go (sized w (drop 2 (x ∷ t))) (sized_leaves w (drop 2 (x ∷ t)))
  where
    go : (o : Option (List ℕ × List ℕ)) → Leaving (length (drop 2 (x ∷ t))) o
        → Leaving {A = Held} (length t) (then_read o (λ v. some (record { name = at16 (x ∷ t) 0; value = v.0 }, v.1)))
    go none l = tt
    go (some v) l = omega (arith, length-drop 2 (x ∷ t))

module _ {A : Type 0} (one : List ℕ → Option (A × List ℕ)) (takes : (x : ℕ) (t : List ℕ) → Leaving (length t) (one (x ∷ t))) where
  until_same : (i j : ℕ) (s : List ℕ) → length s ≤ i → length s ≤ j → until_end_in one i s ≡ until_end_in one j s
  unfolding until_end_in
  until_same zero zero s p q = refl
  until_same zero (suc j) [] p q = refl
  until_same zero (suc j) (x ∷ s) p q = absurd (omega arith)
  until_same (suc i) zero [] p q = refl
  until_same (suc i) zero (x ∷ s) p q = absurd (omega arith)
  until_same (suc i) (suc j) [] p q = refl
  until_same (suc i) (suc j) (x ∷ s) p q =
      then_same (length s) (one (x ∷ s)) _ _ (takes x s)
      (λ a l. ap (λ (o : Option (List A)). then_read o (λ as'. some (a.0 ∷ as'))) (until_same i j a.1 (omega arith) (omega arith)))

  pub until_step : (x : ℕ) (s : List ℕ) → until_end one (x ∷ s) ≡ then_read (one (x ∷ s)) (λ a. then_read (until_end one a.1) (λ as'. some (a.0 ∷ as')))
  unfolding until_end until_end_in
  until_step x s =
      then_same (length s) (one (x ∷ s)) _ _ (takes x s)
      (λ a l. ap (λ (o : Option (List A)). then_read o (λ as'. some (a.0 ∷ as'))) (until_same (length s) (length a.1) a.1 l (omega arith)))
