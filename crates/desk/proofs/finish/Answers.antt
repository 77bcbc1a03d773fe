-- `desk::finish` meets its contract.
use native.Mathlib.Omega.{arith}
use Rattle.desk.proofs.Turns.{printed-within}
use Rattle.desk.proofs.finish.Goals as goal

pub printed-requires : goal.printed-requires
printed-requires g c = printed-within (omega arith) c.answer.ensures
