-- `octets::is_blank` meets its contract.
use mathlib.Core.Path.{◌≡◌}
use lib.Bits.{bit_or}
use borrow.Author.Rules.{rules}
use Rattle.std.specs.List.{fold}
use Rattle.octets.proofs.Blanks.{joined_blank}
use Rattle.octets.proofs.is_blank.Goals as goal

pub returns : goal.returns
returns c =
    let e : c.fold.result ≡ fold bit_or 0 c.args.s.now = search rules in
    rw e (joined_blank c.args.s.now)
