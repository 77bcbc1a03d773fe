-- `memory::flags_with` meets its contract.
use Rattle.memory.proofs.Masks.{flags_with}
use Rattle.memory.proofs.flags_with.Goals as goal

pub returns : goal.returns
returns c =
    let a = c.args in
    flags_with a.m.now a.k a.present a.due c.flags-f.ensures.0 c.bit.ensures.0 c.bit-2.ensures.0
