-- `script::move_memory` meets its contract.
use Rattle.script.specs.Instructions.{moved_by}
use Rattle.script.proofs.move_memory.Goals as goal

pub returns-in-Forward : goal.returns-in-Forward
unfolding moved_by
returns-in-Forward c = rw c.in-Forward.is c.forward.ensures

pub returns-in-Back : goal.returns-in-Back
unfolding moved_by
returns-in-Back c = rw c.in-Back.is c.back.ensures
