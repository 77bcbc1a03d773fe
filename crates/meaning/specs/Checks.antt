-- Checks in an order: what counts is the first that fails. Refusals of calls (RULES 15.16 to 15.19) and causes of records (RULES 11.5)
-- are given so.
use Rattle.std.specs.Prelude.{ℕ, zero, suc, Bool, true, false}

-- tests, one after another, each with the number that stands for its failing
pub data Checks : Type 0 where
  passed : Checks
  check : ℕ → Bool → Checks → Checks

-- the number of the first test that fails, 0 where all pass
unfoldable pub first_failed : Checks → ℕ
first_failed passed = 0
first_failed (check n true cs) = first_failed cs
first_failed (check n false cs) = n

-- what is done at number 0, else what is made of the number
unfoldable pub when_passed : {A : Type 0} → ℕ → A → (ℕ → A) → A
when_passed zero done refused = done
when_passed (suc n) done refused = refused (suc n)
