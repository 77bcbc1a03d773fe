-- `notification::end_wait` meets its contract.
use Prim.Native.Nat.{ℕ}
use mathlib.Core.Path.{ap, ◌∙◌}
use mathlib.Core.List.{List}
use Rattle.meaning.specs.Memory.{set_timer}
use Rattle.notification.proofs.end_wait.Goals as goal

pub returns : goal.returns
returns c = c.set_timer.ensures ∙ ap (λ (s : List ℕ). set_timer s 0 0) c.turn.ensures
