-- `script::make_room` meets its contract.
use Prim.Native.Nat.{ℕ, ◌≤◌}
use Rattle.std.proofs.Math.Nat.{min-le_right}
use native.Mathlib.Omega.{arith}
use mathlib.Core.Path.{ap, ◌∙◌}
use mathlib.Core.List.{List, ◌++◌}
use lib.ListN.{drop}
use lib.Seq.{length-take-le}
use Rattle.script.proofs.Lend.{least, made}
use Rattle.script.proofs.make_room.Goals as goal

pub returns : goal.returns
returns c =
    let room = c.args.room.now in
    let n = c.min-n.result in
    let h : n ≤ 8192 = omega (arith, c.min-n.ensures, min-le_right c.args.asked 8192) in
    let filled = rw (length-take-le n room (omega (arith, h, c.requires))) at c.fill.ensures.after (λ y e. e) in
    (h, made room _ c.args.asked n (c.min-n.ensures ∙ least c.args.asked) (ap (λ (v : List ℕ). v ++ drop n room) filled))
