-- `gates::number` meets its contract.
use mathlib.Core.Path.{◌≡◌, refl, sym}
use Rattle.meaning.specs.Gates.{gates_number}
use Rattle.gates.specs.Answers.{told, answer_of}
use Rattle.gates.specs.declared.Gates.{Gates}
use Rattle.gates.specs.declared.Gates.TheVariants.{NotStarted, Open}
use Rattle.gates.proofs.number.Goals as goal

-- an answer that is not refused has number 0
told_0 : (g : Gates) → gates_number (told g) ≡ 0
unfolding gates_number told
told_0 NotStarted = refl
told_0 (Open s k d) = refl

pub returns-in-Ok : goal.returns-in-Ok
unfolding answer_of
returns-in-Ok c = rw c.in-Ok.is (sym (told_0 _))

pub returns-in-Err : goal.returns-in-Err
unfolding gates_number answer_of
returns-in-Err c = rw c.in-Err.is c.refusal_number.ensures
