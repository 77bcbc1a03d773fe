-- `octets::put16` meets its contract.
use Prim.Native.Nat.{◌/◌, ◌%◌}
use Rattle.meaning.specs.Octets.{be16}
use Rattle.octets.proofs.Splices.{two_stores}
use Rattle.octets.proofs.put16.Goals as goal

pub returns : goal.returns
unfolding be16
returns c =
    rw c.to_be_bytes.ensures (two_stores c.args.s.now c.args.at (c.args.v / 256 % 256) (c.args.v % 256) c.requires.0)
