-- `soundness::gap_at` meets its contract.
use Prim.Native.Nat.{ℕ, ◌+◌, ◌-◌}
use mathlib.Core.Bool.{Bool}
use mathlib.Core.Path.{◌≡◌, refl, sym, ap, ap₂, ◌∙◌}
use borrow.Author.Tests.{ne_eqb}
use Rattle.std.specs.Bool.{then_some}
use Rattle.meaning.specs.Table.{room_at}
use Rattle.meaning.specs.Octets.{part, blank}
use Rattle.meaning.specs.Memory.{cell, size}
use Rattle.soundness.specs.Fields.{gap_at}
use Rattle.soundness.proofs.gap_at.Goals as goal

pub returns-then-n-eq0 : goal.returns-then-n-eq0
unfolding gap_at
returns-then-n-eq0 c =
    let a = c.args in
    let z : size (cell a.m.now a.k) ≡ 0 = sym (c.size-n.ensures.0 ∙ ap size c.cell.ensures) ∙ c.if-n-eq0.true in
    rw z refl

pub returns : goal.returns
unfolding gap_at part
returns c =
    let a = c.args in
    let m = a.m.now in
    let z = c.row_at-start.ensures.1 in
    let n = c.size-n in
    let q : n.result ≡ size (cell m a.k) = n.ensures.0 ∙ ap size c.cell.ensures in
    let b : c.is_blank.result ≡ blank (part m a.end (room_at a.k - a.end)) = c.is_blank.ensures ∙ rw z in
    rw (← q, ne_eqb n.result 0 c.if-n-eq0.false) (c.then_some.ensures ∙ ap₂ (λ (x : Bool) (y : ℕ). then_some x (y + n.result)) b z)
