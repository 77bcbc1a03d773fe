-- `soundness::fields_at` meets its contract.
use native.Mathlib.Omega.{arith}
use mathlib.Core.Path.{sym, ap, ◌∙◌}
use borrow.Author.Tests.{leb-true}
use Rattle.meaning.specs.Table.{row_at}
use Rattle.meaning.specs.Memory.{cell, size}
use Rattle.meaning.proofs.Tests.{every_at, not-true}
use Rattle.soundness.specs.Fields.{fields_at, fields_sound}
use Rattle.soundness.proofs.Entries.{fields_tests}
use Rattle.soundness.proofs.fields_at.Goals as goal

pub returns-then-s-n : goal.returns-then-s-n
unfolding fields_at fields_sound
returns-then-s-n c =
    let a = c.args in
    let r = row_at a.k in
    let e = c.size-n.ensures.0 ∙ ap size c.cell-c.ensures in
    sym (not-true _ (λ t. omega (arith, leb-true (size (cell a.m.now a.k)) r.most (every_at _ 1 t), e, c.if-s-n.true, c.room-s.ensures.1)))

pub returns : goal.returns
unfolding fields_at
returns c =
    let a = c.args in
    let n = c.size-n in
    let s = c.room-s in
    let k = c.cell-c in
    let w = c.waiting in
    rw (c.cell_sound.ensures, c.value_sound.ensures, sym k.ensures, sym s.ensures.0, sym w.ensures)
    (fields_tests w.result (row_at a.k) k.result.now s.result.now n.result n.ensures.0 c.if-s-n.false s.ensures.1)
