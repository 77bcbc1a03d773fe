-- `memory::subscribe` meets its contract.
use mathlib.Core.Bool.{true}
use Rattle.meaning.specs.Memory.{pending, in_flight}
use Rattle.memory.proofs.Masks.{subscribe-flags, marks_set}
use Rattle.memory.proofs.subscribe.Goals as goal

pub returns : goal.returns
returns c =
    let a = c.args in
    let m = a.m.now in
    marks_set m a.k true (pending m a.k) (in_flight m a.k) c.put_flags.ensures (subscribe-flags m a.k c.flags-f.ensures.0)
