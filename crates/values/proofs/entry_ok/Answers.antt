-- `values::entry_ok` meets its contract.
use Prim.Native.Nat.{◌+◌, ◌*◌, ◌<◌}
use native.Mathlib.Omega.{arith}
use mathlib.Core.Path.{◌≡◌}
use mathlib.Core.Bool.{and-true}
use lib.Dec.{leb}
use Rattle.meaning.specs.Octets.{octet, at32, every}
use Rattle.meaning.specs.Block.{interval, entry_ok}
use Rattle.values.proofs.Values.{head_tests}
use Rattle.values.proofs.entry_ok.Goals as goal

pub returns : goal.returns
unfolding entry_ok interval every
returns c =
    let e = c.args.e.now in
    let h : octet e 0 < 256 = omega arith in
    let n : c.from_le_bytes-head.result ≡ octet e 0 + 256 * octet e 1 = omega (arith, c.from_le_bytes-head.ensures) in
    rw (c.get32.ensures.0, n, and-true) (head_tests (octet e 0) (octet e 1) (leb 1 (at32 e 3)) h)
