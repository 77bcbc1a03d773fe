-- `local::store` meets its contract.
use mathlib.Core.Path.{ap, ◌∙◌}
use mathlib.Core.List.{List}
use Prim.Native.Nat.{ℕ}
use mathlib.Core.Bool.{not}
use lib.Dec.{eqb}
use lib.Pointwise.{pointwise}
use Rattle.local.proofs.Values.{stored_is}
use Rattle.local.proofs.store.Goals as goal

pub returns : goal.returns
returns c =
    let a = c.args in
    stored_is a.m.now a.k a.value.now _ c.has-s.ensures
    (c.ne-differs.ensures ∙ ap (λ (s : List ℕ). not (pointwise eqb s a.value.now)) c.body.ensures)
    c.is_empty.ensures c.flags_with-f.ensures c.put.ensures
