-- `stdio::run` meets its contract.
use native.Mathlib.Omega.{arith}
use mathlib.Core.Path.{◌∙◌}
use lib.Seq.{length-take-le}
use Rattle.stdio.proofs.run.Goals as goal

pub loop-preserved : goal.loop-preserved
loop-preserved g c =
    let l = c.loop in
    let block = c.read_more.new.block in
    let more = rw c.in-Some.is at c.in_ok-end.ensures in
    let rest = rw c.in-Some-2.is at c.in_ok-rest.ensures.serves in
    let end = length-take-le c.in-Some.end block (omega (arith, more.2, c.read_more.auto.block)) in (
      c.serve.ensures.fits,
      c.read_more.auto.block ∙ l.invariant.1,
      c.serve.auto.out ∙ l.invariant.2,
      omega (arith, rest.1, end),
      omega (arith, more.2, c.read_more.auto.block),
      omega (arith, rest.2.1, end, c.requires.1),
    )
