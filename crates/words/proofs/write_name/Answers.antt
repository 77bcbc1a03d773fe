-- `words::write_name` meets its contract.
use native.Mathlib.Omega.{arith}
use Rattle.octets.specs.Letters.{letters}
use Rattle.page.proofs.Prints.{room_behind, prints_both}
use Rattle.words.specs.Lines.{name_line, record_line}
use Rattle.words.proofs.Short.{started-short}
use Rattle.words.proofs.write_name.Goals as goal

pub push-requires : goal.push-requires
unfolding letters
push-requires c = room_behind 42 1 c.requires c.write_start.ensures (omega (arith, started-short (letters "  name ") c.args.name))

pub returns : goal.returns
unfolding record_line name_line letters
returns c = prints_both (omega (arith, c.requires, started-short (letters "  name ") c.args.name)) c.write_start.ensures c.push.ensures
