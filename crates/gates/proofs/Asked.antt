-- What is asked of sound memory, of a block with form and fit, and of an instant by its sign: what a test against 0 leaves, and the number
-- that a cast gives.
use Prim.Native.Nat.{ℕ, ◌-◌, ◌/◌, ◌%◌, ◌≤◌}
use native.Mathlib.Nat.{lt_of_le_of_lt}
use native.Mathlib.Omega.{arith}
use mathlib.Core.Path.{◌≡◌, refl, subst}
use mathlib.Core.Bool.{Bool, true, false}
use mathlib.Core.List.{List}
use lib.ListN.{length}
use lib.Dec.{T, lit<}
use lib.IntN.{ℤ, pos, negsuc, nat_abs}
use lib.Signed.{lt_z, non_neg, nat_abs-le}
use borrow.Author.Tests.{ltb-true}
use mir.Syntax.{w64}
use mir.Val.{Fits, SFits}
use Rattle.meaning.specs.Table.{commit}
use Rattle.meaning.specs.Block.{ratio_ok, cycle, list_of, ratio_of, form_and_fit}
use Rattle.meaning.specs.Memory.{present}
use Rattle.meaning.specs.Profile.{sound_in}
use Rattle.meaning.specs.Gates.{not_started, entry_at, gates_of, gates}
use Rattle.meaning.proofs.Tests.{every_at}
use Rattle.meaning.proofs.Blocks.{form_spelt, list_length, block-cycle}
use Rattle.meaning.proofs.Holding.{cycle_some}
use Rattle.meaning.proofs.Driven.{gates_idle, gates-running}
use Rattle.gates.specs.Answers.{running}

-- ---- memory

-- the profile decides whether it is sound, and nothing else
pub gates-asked : (p : ℕ) (m : List ℕ) (z : ℤ) → sound_in p m ≡ true → gates p m z ≡ running m z
unfolding running
gates-asked p m z s = go (present m commit) refl
  where
    go : (b : Bool) → present m commit ≡ b → gates p m z ≡ running m z
    go true e = rw e (gates-running p m z s e)
    go false e = rw e (gates_idle p m z s e)

-- ---- a block

module _ (b : List ℕ) (e : form_and_fit b ≡ true) where
  pub long_enough : 22 ≤ length b
  long_enough = omega (arith, (form_spelt b e).1.long)

  pub ratio-right : ratio_ok (ratio_of b) ≡ true
  unfolding form_and_fit
  ratio-right = every_at _ 4 e

  pub cycle_runs : 1 ≤ cycle (ratio_of b)
  cycle_runs =
      let r = form_spelt b e in
      rw (block-cycle b r.0 r.1.long) (cycle_some b r.0 r.1)

  pub list_right : (7 ≤ length (list_of b)) × (length (list_of b) ≤ 448) × (length (list_of b) % 7 ≡ 0)
  list_right =
      let r = (form_spelt b e).1 in
      let l = list_length b (form_spelt b e).0 r.long in
      (omega (arith, l, r.at_least_one), omega (arith, l, r.at_most), omega (arith, l))

-- ---- an instant

-- not below 0: the cast keeps the number
pub cast_right : (z : ℤ) → SFits w64 z → lt_z z (pos 0) ≡ false → T (non_neg z) × Fits w64 (nat_abs z)
cast_right (pos i) f e = (tt, record { fits = lt_of_le_of_lt (nat_abs-le (pos i) f.sfits) (lit< tt) })
cast_right (negsuc i) f e = absurd (subst T e tt)

module _ (b : List ℕ) where
  pub not_started_lem : (z : ℤ) → lt_z z (pos 0) ≡ true → not_started ≡ gates_of b z
  unfolding gates_of
  not_started_lem (pos i) e = absurd (omega (arith, ltb-true i 0 e))
  not_started_lem (negsuc i) e = refl

  pub started : (z : ℤ) → lt_z z (pos 0) ≡ false
      → entry_at (length (list_of b) / 7 - 1) (list_of b) 0 0 (nat_abs z % cycle (ratio_of b)) (cycle (ratio_of b)) ≡ gates_of b z
  unfolding gates_of
  started (pos i) e = refl
  started (negsuc i) e = absurd (subst T e tt)
