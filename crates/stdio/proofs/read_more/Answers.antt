-- `stdio::read_more` meets its contract.
use native.Mathlib.Omega.{arith}
use Rattle.stdio.proofs.Held.{in_front}
use Rattle.stdio.proofs.read_more.Goals as goal

pub returns-in-Some : goal.returns-in-Some
returns-in-Some g c =
    let a = c.args in
    let t = c.to_front-left in
    let r = rw c.in-Some.is at c.in_ok-n.ensures.stays in (
      in_front a.block.now a.from a.to c.read_on.new.block c.requires.0 c.requires.1 t.ensures r.0,
      omega (arith, r.1, t.ensures.0),
      omega (arith, r.1, t.auto.block),
    )
