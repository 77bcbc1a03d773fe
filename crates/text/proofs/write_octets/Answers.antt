-- `text::write_octets` meets its contract.
use native.Mathlib.Omega.{arith}
use Rattle.page.proofs.Prints.{room_behind, prints_both}
use Rattle.text.specs.Lines.{octets_line}
use Rattle.text.proofs.Writes.{shown-short}
use Rattle.text.proofs.write_octets.Goals as goal

pub push-requires : goal.push-requires
push-requires c = room_behind _ 1 c.requires c.write_shown.ensures (omega (arith, shown-short c.args.src.now))

pub returns : goal.returns
unfolding octets_line
returns c = prints_both (omega (arith, c.requires, shown-short c.args.src.now)) c.write_shown.ensures c.push.ensures
