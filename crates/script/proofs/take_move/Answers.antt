-- `script::take_move` meets its contract.
use Prim.Native.Nat.{ℕ}
use native.Mathlib.Omega.{arith}
use mathlib.Core.Path.{◌≡◌, sym, ap, ◌∙◌}
use mathlib.Core.List.{List, ◌++◌}
use lib.ListN.{length, take, drop}
use lib.Seq.{length-take-le, take_at}
use Rattle.script.specs.Instructions.{moved_by}
use Rattle.script.specs.Instructions as instructions
use Rattle.script.specs.Takes.{move_code}
use Rattle.script.proofs.Codes.{move_body, move_row}
use Rattle.script.proofs.Lend.{front_is, move_left}
use Rattle.script.proofs.MoveTold.{moved_leaves, tellable, told}
use Rattle.script.proofs.take_move.Goals as goal
use Rattle.script.proofs.take_move.Goals.{After-move_memory-answer}

-- the room is as long as it was lent to the move, and lent again it is what the move left
room-long : (c : After-move_memory-answer) → length c.move_memory-answer.new.room ≡ c.make_room-n.result
room-long c =
    let r = c.make_room-n in
    c.move_memory-answer.auto.room ∙ length-take-le r.result r.new.room (omega (arith, r.ensures.0, r.auto.room, c.requires.0.1))

again : (c : After-move_memory-answer)
    → let n = c.make_room-n.result in
    let room = c.move_memory-answer.new.room in
    take n (room ++ drop n c.make_room-n.new.room) ≡ room
again c =
    let r = c.make_room-n in
    take_at c.move_memory-answer.new.room (drop r.result r.new.room) r.result (room-long c)

pub get16-requires : goal.get16-requires
get16-requires c =
    omega (arith, (move_body c.args.way (length c.args.body.now) c.requires.1).0)

pub slice_bounds-move_memory-end : goal.slice_bounds-move_memory-end
slice_bounds-move_memory-end c =
    sym (length-take-le c.args.lent.memory c.args.memory.now (omega (arith, c.requires.0.0, c.requires.0.2.0)))

pub slice_bounds-move_memory-end-3 : goal.slice_bounds-move_memory-end-3
slice_bounds-move_memory-end-3 c =
    let r = c.make_room-n in
    sym (length-take-le r.result r.new.room (omega (arith, r.ensures.0, r.auto.room, c.requires.0.1)))

pub slice_bounds-write_move-end-2 : goal.slice_bounds-write_move-end-2
slice_bounds-write_move-end-2 c =
    let places = goal.at.slice_bounds-write_move-end-2 c in
    sym (ap length (again places.After-move_memory-answer) ∙ room-long places.After-move_memory-answer)

pub write_move-requires : goal.write_move-requires
write_move-requires c =
    let a = c.args in
    let r = c.make_room-n in
    let m = take a.lent.memory a.memory.now in
    let h = take r.result r.new.room in
    rw (again (goal.at.write_move-requires c).After-move_memory-answer) (tellable (move_code a.way) m h c.move_memory-answer.ensures a.page.now (omega (arith, length-take-le r.result r.new.room (omega (arith, r.ensures.0, r.auto.room, c.requires.0.1)), r.ensures.0, c.requires.0.3)))

pub returns : goal.returns
returns c =
    let places = goal.at.returns c in
    let a = c.args in
    let r = c.make_room-n in
    let m = take a.lent.memory a.memory.now in
    let h = take r.result r.new.room in
    let g = c.move_memory-answer.ensures in
    let o = (move_body a.way (length a.body.now) c.requires.1).1 in
    let w = told (move_code a.way) m h g o (rw (again places.After-move_memory-answer) at c.write_move.ensures) in
    let e = ap (λ (n : ℕ). instructions.anew n) (sym c.get16.ensures.0) ∙ sym (front_is a.room.now _ r.ensures.1) in (
      c.requires.1,
      move_left _ (c.requires.0.2.0, r.ensures.0) (move_code a.way) (moved_by (move_code a.way) m h) a.memory.now c.move_memory-answer.new.room a.room.now r.new.room _
          (move_row (move_code a.way) a.body.now m (take a.lent.room a.room.now) o ∙ ap (λ (x : List ℕ). instructions.answered (move_code a.way) (moved_by (move_code a.way) m x)) e)
          w.1 (moved_leaves (move_code a.way) m h g) g.room_is (omega (arith, w.0, length-take-le r.result r.new.room (omega (arith, r.ensures.0, r.auto.room, c.requires.0.1)), r.ensures.0)) c.requires.0.0 r.ensures.1 (room-long places.After-move_memory-answer),
    )
