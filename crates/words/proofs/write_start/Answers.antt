-- `words::write_start` meets its contract.
use native.Mathlib.Omega.{arith}
use Rattle.meaning.specs.Octets.{be16}
use Rattle.octets.specs.Letters.{letters}
use Rattle.page.proofs.Prints.{room_behind, prints_both}
use Rattle.text.specs.Lines.{hex}
use Rattle.words.specs.Lines.{started}
use Rattle.words.proofs.write_start.Goals as goal

pub write_hex-requires : goal.write_hex-requires
write_hex-requires c = room_behind _ _ c.requires c.print.ensures (omega arith)

pub push-requires : goal.push-requires
unfolding hex
push-requires c = room_behind 34 1 (room_behind _ 34 c.requires c.print.ensures (omega arith)) c.write_hex.ensures (omega arith)

pub write_word-requires : goal.write_word-requires
unfolding hex
write_word-requires c =
    let t = room_behind 34 30 (room_behind _ 34 c.requires c.print.ensures (omega arith)) c.write_hex.ensures (omega arith) in
    room_behind 30 29 t c.push.ensures (omega arith)

pub returns : goal.returns
unfolding started hex be16 letters
returns c =
    let t = room_behind _ 34 c.requires c.print.ensures (omega arith) in
    let u = room_behind 34 30 t c.write_hex.ensures (omega arith) in
    prints_both (omega (arith, c.requires)) c.print.ensures
    (prints_both (omega (arith, t)) c.write_hex.ensures (prints_both (omega (arith, u)) c.push.ensures c.write_word.ensures))
