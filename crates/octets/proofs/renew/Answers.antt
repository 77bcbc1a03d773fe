-- `octets::renew` meets its contract.
use Prim.Native.Nat.{◌-◌}
use native.Mathlib.Nat.{sub-zero}
use native.Mathlib.Omega.{arith}
use mathlib.Core.Path.{◌≡◌}
use lib.ListN.{length, take}
use lib.Seq.{take_all}
use Rattle.octets.proofs.renew.Goals as goal

pub returns-then-not-differ : goal.returns-then-not-differ
returns-then-not-differ c = c.requires.1 c.if-not-differ.true

pub returns : goal.returns
returns c =
    let n = length c.args.room.now in
    let e : take (n - 0) c.args.src.now ≡ c.args.src.now = rw sub-zero (take_all n c.args.src.now (omega (arith, c.requires.0))) in
    rw e at c.copy_from_slice.ensures.after
