-- `octets::get32` meets its contract.
use Prim.Native.Nat.{◌+◌}
use native.Mathlib.Omega.{arith}
use mathlib.Core.Path.{◌≡◌}
use borrow.Author.Rules.{rules}
use Rattle.meaning.specs.Octets.{at32, at16}
use Rattle.octets.proofs.get32.Goals as goal

pub returns : goal.returns
unfolding at32 at16
returns c =
    let e : c.args.at + 2 + 1 ≡ c.args.at + 3 = omega arith in
    (rw e (omega (arith, c.from.ensures, c.from_be_bytes.ensures)), search rules)
