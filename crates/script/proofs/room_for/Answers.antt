-- `script::room_for` meets its contract.
use native.Mathlib.Omega.{arith}
use lib.ListN.{take}
use Rattle.script.proofs.Codes.{room-body, room_made, room_last}
use Rattle.script.proofs.Lend.{front_kept}
use Rattle.script.proofs.room_for.Goals as goal

pub get16-requires : goal.get16-requires
get16-requires c = room-body c.requires.2 c.in-Message.is

pub returns-in-Message : goal.returns-in-Message
returns-in-Message c =
    let a = c.args in
    rw (room_made a.body.now (take a.last a.room.now) c.in-Message.is, ← c.get16.ensures.0) c.make_room.ensures

pub returns-in-Fresh : goal.returns-in-Fresh
returns-in-Fresh c =
    let a = c.args in
    rw (room_last a.body.now (take a.last a.room.now) c.in-Fresh.is)
    (c.requires.1, front_kept a.room.now a.last (omega (arith, c.requires.0, c.requires.1)))
