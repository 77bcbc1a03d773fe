-- `memory::unsubscribe` meets its contract.
use mathlib.Core.Bool.{false}
use Rattle.memory.proofs.Masks.{unsubscribe-flags, marks_set}
use Rattle.memory.proofs.unsubscribe.Goals as goal

pub returns : goal.returns
returns c =
    let a = c.args in
    let m = a.m.now in
    marks_set m a.k false false false c.put_flags.ensures (unsubscribe-flags m a.k c.flags-f.ensures.0)
