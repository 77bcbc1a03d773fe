-- `bridge::BridgeTakePieces::take` meets its contract.
use native.Mathlib.Omega.{arith}
use mathlib.Core.Path.{◌≡◌, refl}
use lib.ListN.{length}
use borrow.Author.Rules.{rules}
use mathlib.Core.List.{List}
use Prim.Native.Nat.{ℕ}
use Rattle.meaning.specs.FormB.{message}
use Rattle.meaning.proofs.Refused.{RoomAfter}
use Rattle.meaning.proofs.Sendings.{take_message}
use Rattle.meaning.proofs.Formed.{gives_lent, room_of, lent-room}
use Rattle.answers.proofs.Answered.{answerable, answered}
use Rattle.bridge.specs.Frames.{outcome_of}
use Rattle.bridge.proofs.BridgeTakePieces.take.Goals as goal

-- what a message leaves of the room
room_after : (b s room : List ℕ) → RoomAfter (message b s room) room
unfolding gives_lent room_of
room_after b s room = lent-room b (take_message s room)

pub write_outcome-requires : goal.write_outcome-requires
write_outcome-requires c =
    let a = c.args in
    let b = a.self.now in
    let n : length b.room ≡ 4096 = search rules in
    answerable (message b.memory a.body.now b.room) b.room (room_after b.memory a.body.now b.room) c.message-outcome.ensures a.page.now (omega (arith, n, c.requires.room))

pub returns-clause-takes : goal.returns-clause-takes
unfolding outcome_of
returns-clause-takes c =
    let a = c.args in
    let b = a.self.now in
    let r = answered (message b.memory a.body.now b.room) b.room (room_after b.memory a.body.now b.room) c.message-outcome.ensures c.write_outcome.ensures in
    let n : length b.room ≡ 4096 = search rules in
    (refl, rw (r.1.memory_is, r.1.room_is), r.1.printed, omega (arith, r.0, n))
