-- An instant read from eight octets: under 2^63 the number itself, and from there on what is counted back from -1. The line of gates that are not open.
use Prim.Native.Nat.{ℕ, zero, suc, ◌-◌, ◌≤◌, ◌<◌}
use native.Mathlib.Nat.{zero-add}
use native.Mathlib.Omega.{arith}
use mathlib.Core.Path.{◌≡◌, refl, sym, ap, ◌∙◌}
use mathlib.Core.Bool.{Bool, true, false, cond}
use mathlib.Core.List.{List, []}
use lib.ListN.{length}
use lib.IntN.{ℤ, pos, negsuc, ◌-ℤ◌}
use lib.Dec.{ltb}
use borrow.Author.Tests.{ltb-true, ltb-false, lt-ltb, le-ltb}
use mir.Syntax.{w64}
use mir.Val.{SFits, to_z}
use mir.Facts.{to_z_pos}
use Rattle.meaning.specs.Gates.{refused, not_started, opens, gates_number}
use Rattle.meaning.specs.Gates as meaning
use Rattle.std.specs.Prelude.{Result, Ok, Err}
use Rattle.gates.specs.declared.Refusal.{Refusal}
use Rattle.gates.specs.declared.Refusal.TheVariants.{MemoryUnsound, NothingRuns}
use Rattle.gates.specs.declared.Gates.{Gates}
use Rattle.gates.specs.declared.Gates.TheVariants.{NotStarted, Open}
use Rattle.gates.specs.Answers.{refusal_number, told, answer_of}
use Rattle.text.specs.Lines.{line}
use Rattle.text.proofs.Writes.{line-short}
use Rattle.text.proofs.Decimals.{open_short}
use Rattle.script.specs.Instructions.{nanoseconds, instant, gates_line}

-- -1 less a number
back : (k : ℕ) → negsuc 0 -ℤ pos k ≡ negsuc k
back zero = refl
back (suc k) = ap (λ (n : ℕ). negsuc (suc n)) (zero-add k)

-- the number that is counted back
abbrev pub left : ℕ → ℤ
left n = negsuc 0 -ℤ to_z w64 (18446744073709551615 - n)

counted : (n : ℕ) → 0x8000000000000000 ≤ n → left n ≡ negsuc (0xFFFFFFFFFFFFFFFF - n)
counted n h = ap (λ (z : ℤ). negsuc 0 -ℤ z) (to_z_pos w64 {n = 0xFFFFFFFFFFFFFFFF - n} (omega arith)) ∙ back (0xFFFFFFFFFFFFFFFF - n)

pub counted-fits : (n : ℕ) → 0x8000000000000000 ≤ n → SFits w64 (left n)
counted-fits n h = rw (counted n h) (record { sfits = omega arith })

module _ (s : List ℕ) {n : ℕ} (e : n ≡ nanoseconds s) where
  pub instant_low : n < 0x8000000000000000 → to_z w64 n ≡ instant s
  unfolding instant
  instant_low h = to_z_pos w64 h ∙ rw (sym e, lt-ltb n 0x8000000000000000 h)

  pub instant_high : 0x8000000000000000 ≤ n → left n ≡ instant s
  unfolding instant
  instant_high h = counted n h ∙ rw (sym e, le-ltb n 0x8000000000000000 h)

-- an instant is a number of 64 bits
pub instant-fits : (s : List ℕ) → SFits w64 (instant s)
unfolding instant
instant-fits s = at (ltb (nanoseconds s) 0x8000000000000000) refl
  where
    at : (b : Bool) → ltb (nanoseconds s) 0x8000000000000000 ≡ b → SFits w64 (cond b (pos (nanoseconds s)) (negsuc (0xFFFFFFFFFFFFFFFF - nanoseconds s)))
    at true e = record { sfits = ltb-true (nanoseconds s) 0x8000000000000000 e }
    at false e = record { sfits = omega (arith, ltb-false (nanoseconds s) 0x8000000000000000 e) }

-- ---- gates that are not open

pub refused-line : (g : Result Gates Refusal) → ((told : Gates) → g ≡ Ok told → ⊥) → (gates_number (answer_of g) < 100) × (gates_line (answer_of g) ≡ line (gates_number (answer_of g)) [])
unfolding answer_of refusal_number gates_number gates_line
refused-line (Err MemoryUnsound) t = (omega arith, refl)
refused-line (Err NothingRuns) t = (omega arith, refl)
refused-line (Ok told) t = absurd (t told refl)

pub not_started-line : (gates_number (answer_of (Ok NotStarted)) < 100) × (gates_line (answer_of (Ok NotStarted)) ≡ line (gates_number (answer_of (Ok NotStarted))) [])
unfolding told answer_of gates_number gates_line
not_started-line = (omega arith, refl)

pub not_open : (g : Result Gates Refusal) → ((s k d : ℕ) → g ≡ Ok (Open s k d) → ⊥) → (gates_number (answer_of g) < 100) × (gates_line (answer_of g) ≡ line (gates_number (answer_of g)) [])
unfolding answer_of refusal_number gates_number gates_line
not_open (Err MemoryUnsound) t = (omega arith, refl)
not_open (Err NothingRuns) t = (omega arith, refl)
not_open (Ok NotStarted) t = not_started-line
not_open (Ok (Open s k d)) t = absurd (t s k d refl)

pub gates-short : (g : meaning.Gates) → length (gates_line g) ≤ 50
unfolding gates_line
gates-short (refused n) = omega (arith, line-short n [])
gates-short not_started = omega (arith, line-short 0 [])
gates-short (opens s k d) = open_short s k d
