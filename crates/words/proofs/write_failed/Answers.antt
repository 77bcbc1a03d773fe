-- `words::write_failed` meets its contract.
use native.Mathlib.Omega.{arith}
use mathlib.Core.Path.{ap}
use lib.ListN.{length}
use Rattle.octets.specs.Letters.{letters}
use Rattle.page.proofs.Prints.{room_behind, prints_both}
use Rattle.text.specs.Lines.{hex}
use Rattle.words.specs.Lines.{failed_line}
use Rattle.words.proofs.Written.{failing_line}
use Rattle.words.proofs.Short.{started-short, cause-short}
use Rattle.words.proofs.write_failed.Goals as goal

pub write_start-requires : goal.write_start-requires
write_start-requires c = omega (arith, c.requires, ap length c.word.ensures)

pub push-requires : goal.push-requires
push-requires c =
    room_behind _ 1 c.requires c.write_start.ensures (omega (arith, ap length c.word.ensures, started-short c.word.result.now c.args.name))

pub write_hex-requires : goal.write_hex-requires
write_hex-requires c =
    let t = room_behind _ 19 c.requires c.write_start.ensures (omega (arith, ap length c.word.ensures, started-short c.word.result.now c.args.name)) in
    room_behind 19 2 t c.push.ensures (omega arith)

pub push-requires-2 : goal.push-requires-2
unfolding hex
push-requires-2 c =
    let t = room_behind _ 19 c.requires c.write_start.ensures (omega (arith, ap length c.word.ensures, started-short c.word.result.now c.args.name)) in
    room_behind 18 1 (room_behind 19 18 t c.push.ensures (omega arith)) c.write_hex.ensures (omega arith)

pub write_cause-requires : goal.write_cause-requires
unfolding hex
write_cause-requires c =
    let t = room_behind _ 19 c.requires c.write_start.ensures (omega (arith, ap length c.word.ensures, started-short c.word.result.now c.args.name)) in
    let u = room_behind 18 16 (room_behind 19 18 t c.push.ensures (omega arith)) c.write_hex.ensures (omega arith) in
    room_behind 16 14 u c.push-2.ensures (omega arith)

pub push-requires-3 : goal.push-requires-3
unfolding hex
push-requires-3 c =
    let t = room_behind _ 19 c.requires c.write_start.ensures (omega (arith, ap length c.word.ensures, started-short c.word.result.now c.args.name)) in
    let u = room_behind 18 16 (room_behind 19 18 t c.push.ensures (omega arith)) c.write_hex.ensures (omega arith) in
    room_behind 15 1 (room_behind 16 15 u c.push-2.ensures (omega arith)) c.write_cause.ensures (omega (arith, cause-short c.args.cause))

pub returns : goal.returns
unfolding failed_line hex letters
returns c =
    let w = ap length c.word.ensures in
    let h = started-short c.word.result.now c.args.name in
    let t = room_behind _ 19 c.requires c.write_start.ensures (omega (arith, w, h)) in
    let u = room_behind 19 18 t c.push.ensures (omega arith) in
    let v = room_behind 18 16 u c.write_hex.ensures (omega arith) in
    let x = room_behind 16 15 v c.push-2.ensures (omega arith) in
    rw (failing_line _ _, ← c.word.ensures)
    (prints_both (omega (arith, c.requires, w, h)) c.write_start.ensures
    (prints_both (omega (arith, t)) c.push.ensures
    (prints_both (omega (arith, u)) c.write_hex.ensures
    (prints_both (omega (arith, v)) c.push-2.ensures
    (prints_both (omega (arith, x, cause-short c.args.cause)) c.write_cause.ensures c.push-3.ensures)))))
