-- What each case of an answer says: the number where it is refused, else its values; and what is answered once memory is known to be sound.
use Rattle.std.specs.Prelude.{ℕ, cond, List, ℤ, Result, Ok, Err}
use Rattle.meaning.specs.Table.{commit}
use Rattle.meaning.specs.Memory.{present, body}
use Rattle.meaning.specs.Gates.{refused, not_started, opens, gates_of}
use Rattle.meaning.specs.Gates as meaning
use Rattle.gates.specs.declared.Refusal.{Refusal}
use Rattle.gates.specs.declared.Refusal.TheVariants.{MemoryUnsound, NothingRuns}
use Rattle.gates.specs.declared.Gates.{Gates}
use Rattle.gates.specs.declared.Gates.TheVariants.{NotStarted, Open}

-- in the order of RULES 22.3
unfoldable pub refusal_number : Refusal → ℕ
refusal_number MemoryUnsound = 1
refusal_number NothingRuns = 15

unfoldable pub told : Gates → meaning.Gates
told NotStarted = not_started
told (Open s k d) = opens s k d

unfoldable pub answer_of : Result Gates Refusal → meaning.Gates
answer_of (Ok gates) = told gates
answer_of (Err why) = refused (refusal_number why)

-- what sound memory answers, whatever its profile: its running block, if there is one
unfoldable pub running : List ℕ → ℤ → meaning.Gates
running m z = cond (present m commit) (gates_of (body m commit) z) (refused 15)
