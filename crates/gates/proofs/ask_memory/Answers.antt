-- `gates::ask_memory` meets its contract.
use Prim.Native.Nat.{ℕ}
use mathlib.Core.Path.{◌≡◌, sym, ap, ◌∙◌}
use mathlib.Core.Bool.{true}
use mathlib.Core.List.{List}
use mir.Facts.{to_z-of_z}
use Rattle.meaning.specs.Table.{commit}
use Rattle.meaning.specs.Memory.{present}
use Rattle.meaning.specs.Gates.{gates_of}
use Rattle.meaning.proofs.Driven.{running-form}
use Rattle.gates.specs.Answers.{refusal_number, answer_of, running}
use Rattle.gates.proofs.ask_memory.Goals as goal
use Rattle.gates.proofs.ask_memory.Goals.{Else-not-has}

runs : (c : Else-not-has) → present c.args.m.now commit ≡ true
runs c = sym c.has.ensures ∙ c.if-not-has.false

pub returns-then-not-has : goal.returns-then-not-has
unfolding answer_of refusal_number running
returns-then-not-has c = rw (sym c.has.ensures ∙ c.if-not-has.true)

pub ask-requires : goal.ask-requires
ask-requires c = rw c.body.ensures (running-form _ c.requires (runs (goal.at.ask-requires c).Else-not-has))

pub returns : goal.returns
unfolding answer_of running
returns c =
    rw (runs (goal.at.returns c).Else-not-has)
    ((rw (to_z-of_z c.ranges.instant) at c.ask.ensures) ∙ ap (λ (b : List ℕ). gates_of b c.args.instant) c.body.ensures)
