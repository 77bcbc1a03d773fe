-- `words::write_held` meets its contract.
use Prim.Native.Nat.{◌+◌}
use native.Mathlib.Omega.{arith}
use mathlib.Core.Path.{ap}
use lib.ListN.{length}
use Rattle.octets.specs.Letters.{letters}
use Rattle.page.proofs.Prints.{room_behind, prints_both}
use Rattle.words.specs.Lines.{held_line}
use Rattle.words.proofs.Written.{valued_line}
use Rattle.words.proofs.Short.{started-short}
use Rattle.words.proofs.write_held.Goals as goal

pub write_start-requires : goal.write_start-requires
write_start-requires c = omega (arith, c.requires, ap length c.word.ensures)

pub push-requires : goal.push-requires
push-requires c =
    room_behind _ 1 c.requires c.write_start.ensures (omega (arith, ap length c.word.ensures, started-short c.word.result.now c.args.name))

pub write_octets-requires : goal.write_octets-requires
write_octets-requires c =
    let n = length c.args.value.now in
    let t = room_behind _ (n + n + 3) c.requires c.write_start.ensures (omega (arith, ap length c.word.ensures, started-short c.word.result.now c.args.name)) in
    room_behind (n + n + 3) _ t c.push.ensures (omega arith)

pub returns : goal.returns
unfolding held_line letters
returns c =
    let h = started-short c.word.result.now c.args.name in
    let w = ap length c.word.ensures in
    let t = room_behind _ 1 c.requires c.write_start.ensures (omega (arith, w, h)) in
    rw (valued_line _ _, ← c.word.ensures)
    (prints_both (omega (arith, c.requires, w, h)) c.write_start.ensures (prints_both (omega (arith, t)) c.push.ensures c.write_octets.ensures))
