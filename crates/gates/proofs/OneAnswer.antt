-- What the contract of `gates_at` allows is one answer, and from instant 0 on, where a block runs, it has an entry of the list.
use Prim.Native.Nat.{ℕ, ◌+◌, ◌*◌, ◌≤◌, ◌<◌}
use mathlib.Core.Path.{◌≡◌, refl, sym, ap, ◌∙◌}
use mathlib.Core.Bool.{true, cond}
use mathlib.Core.List.{List}
use lib.ListN.{length}
use lib.Dec.{eqb}
use lib.IntN.{ℤ, pos}
use Rattle.meaning.specs.Octets.{octet}
use Rattle.meaning.specs.Table.{commit}
use Rattle.meaning.specs.Memory.{present, body}
use Rattle.meaning.specs.Profile.{sound_in}
use Rattle.meaning.specs.Gates.{refused, not_started, opens, gates}
use Rattle.meaning.specs.Gates as meaning
use Rattle.meaning.proofs.Holding.{Answers, during}
use Rattle.meaning.proofs.Driven.{memory-answered}
use Rattle.std.specs.Prelude.{Result, Ok, Err}
use Rattle.gates.specs.Answers.{refusal_number, told, answer_of}
use Rattle.gates.specs.declared.Refusal.{Refusal}
use Rattle.gates.specs.declared.Refusal.TheVariants.{MemoryUnsound, NothingRuns}
use Rattle.gates.specs.declared.Gates.{Gates}
use Rattle.gates.specs.declared.Gates.TheVariants.{NotStarted, Open}

-- the answer that a case comes from
abbrev from : meaning.Gates → Result Gates Refusal
from (refused n) = Err (cond (eqb n 15) NothingRuns MemoryUnsound)
from not_started = Ok NotStarted
from (opens s k d) = Ok (Open s k d)

from_is : (r : Result Gates Refusal) → from (answer_of r) ≡ r
unfolding told answer_of refusal_number
from_is (Ok NotStarted) = refl
from_is (Ok (Open s k d)) = refl
from_is (Err MemoryUnsound) = refl
from_is (Err NothingRuns) = refl

-- two answers that the contract allows for one memory and one instant are equal
pub one_answer : (p : ℕ) (m : List ℕ) (z : ℤ) (r r' : Result Gates Refusal) → answer_of r ≡ gates p m z → answer_of r' ≡ gates p m z → r ≡ r'
one_answer p m z r r' e f = sym (from_is r) ∙ ap from (e ∙ sym f) ∙ from_is r'

-- an entry of a block of n, with its gate states and some time left
pub data OpenIn (b : List ℕ) (n : ℕ) : Result Gates Refusal → Type 0 where
  entry : (s k d : ℕ) → k < n → s ≡ octet b (16 + 7 * k) → 1 ≤ d → OpenIn b n (Ok (Open s k d))

-- what the contract allows where a block runs, from instant 0 on
pub open_reached : (p : ℕ) (m : List ℕ) (i : ℕ) (r : Result Gates Refusal) → sound_in p m ≡ true → present m commit ≡ true → answer_of r ≡ gates p m (pos i)
    → (n : ℕ) × (length (body m commit) ≡ 22 + 7 * n) × OpenIn (body m commit) n r
open_reached p m i r e f g =
    let a = memory-answered p m (pos i) e f in
    (a.0, a.1.long, rw (sym (from_is r), g) (of a.0 (gates p m (pos i)) a.2))
  where
    of : (n : ℕ) (g : meaning.Gates) → Answers (body m commit) n (pos i) g → OpenIn (body m commit) n (from g)
    of n _ (during _ s k d h) = entry s k d h.listed h.states_are h.soon
