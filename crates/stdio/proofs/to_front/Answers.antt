-- `stdio::to_front` meets its contract.
use Prim.Native.Nat.{ℕ, ◌+◌, ◌-◌}
use native.Mathlib.Omega.{arith}
use mathlib.Core.Path.{refl, sym, ap, ◌∙◌}
use mathlib.Core.List.{◌++◌}
use lib.ListN.{drop}
use Rattle.meaning.specs.Octets.{part, splice}
use Rattle.meaning.proofs.Lists.{length_part}
use Rattle.stdio.proofs.to_front.Goals as goal

pub returns : goal.returns
unfolding splice part
returns c =
    let s = c.args.block.now in
    let n = c.args.to - c.args.from in
    let l = length_part s c.args.from n (omega arith) in
    (refl, c.copy_within.ensures.after ∙ ap (λ (k : ℕ). part s c.args.from n ++ drop (0 + k) s) (sym l))
