-- `records::write_value_head` meets its contract.
use Prim.Native.Nat.{◌+◌}
use native.Mathlib.Omega.{arith}
use mathlib.Core.Path.{refl}
use Rattle.meaning.specs.Octets.{be16}
use Rattle.octets.proofs.Splices.{then}
use Rattle.records.proofs.write_value_head.Goals as goal

pub returns : goal.returns
unfolding be16
returns c =
    let a = c.args in
    (refl, then a.out.now (be16 a.name) (be16 a.n) a.at (a.at + 2) (omega (arith, c.requires.0)) refl c.put16.ensures c.put16-2.ensures)
