-- Causes that are told as they stand, and those that are not: one law for each way in which `update_cause` returns.
use Prim.Native.Nat.{ℕ, zero, suc, ◌≤◌, ◌<◌}
use native.Mathlib.Omega.{arith}
use mathlib.Core.Path.{◌≡◌, refl}
use borrow.Author.Tests.{ne_eqb}
use Rattle.meaning.specs.Capture.{update_cause}

pub told : (c : ℕ) → 1 ≤ c → c < 3 → c ≡ update_cause c
unfolding update_cause
told zero low high = absurd (omega arith)
told (suc zero) low high = refl
told (suc (suc zero)) low high = refl
told (suc (suc (suc c))) low high = absurd (omega arith)

pub not_told : (c : ℕ) → (c ≡ 1 → ⊥) → (c ≡ 2 → ⊥) → 0x6F ≡ update_cause c
unfolding update_cause
not_told c a b = rw (ne_eqb c 1 a, ne_eqb c 2 b)
