-- `memory::put` meets its contract.
use Prim.Native.Nat.{ℕ}
use native.Mathlib.Omega.{arith}
use mathlib.Core.Path.{ap, ◌∙◌}
use mathlib.Core.List.{List}
use Rattle.meaning.specs.Memory.{put_room, put}
use Rattle.meaning.proofs.Places.{most-small}
use Rattle.memory.proofs.put.Goals as goal

pub put_cell-requires : goal.put_cell-requires
put_cell-requires c =
    (c.requires.0, omega (arith, c.requires.1, most-small c.args.k c.requires.0))

pub returns : goal.returns
unfolding put
returns c =
    let a = c.args in
    c.put_room.ensures ∙ ap (λ (t : List ℕ). put_room t a.k a.v.now) c.put_cell.ensures
