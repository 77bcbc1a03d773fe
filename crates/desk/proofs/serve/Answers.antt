-- `desk::serve` meets its contract.
use mathlib.Core.Path.{refl}
use Rattle.typed.specs.Forms.{typed_in}
use Rattle.desk.proofs.Turns.{taken-all}
use native.Mathlib.Omega.{arith}
use borrow.Author.Rules.{rules}
use Rattle.desk.proofs.serve.Goals as goal

pub loop-read-init : goal.loop-read-init
loop-read-init g c = (c.requires.0, omega arith, refl, c.requires.1)

pub returns-then-at-lt-DUE : goal.returns-then-at-lt-DUE
returns-then-at-lt-DUE g c =
    let a = c.answer_lines-batch in
    let all = taken-all {t = typed_in c.loop-read.octets c.loop-read.read} a.ensures.0 c.if-at-lt-DUE.true in
    (cc, a.ensures.1)

pub loop-read-smaller : goal.loop-read-smaller
loop-read-smaller g c =
    let a = c.answer_lines-batch in
    omega (arith, a.ensures.0.onward c.if-at-lt-DUE.false, a.ensures.0.within)

pub loop-read-preserved : goal.loop-read-preserved
loop-read-preserved g c =
    let a = c.answer_lines-batch in
    let l = c.loop-read in
    (a.ensures.1, a.ensures.0.within, cc, search rules)
