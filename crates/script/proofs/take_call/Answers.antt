-- `script::take_call` meets its contract.
use Prim.Native.Nat.{ℕ}
use native.Mathlib.Omega.{arith}
use mathlib.Core.Path.{◌≡◌, sym, ap, ◌∙◌}
use mathlib.Core.List.{List, ◌++◌}
use lib.ListN.{length, take, drop}
use lib.Seq.{length-take-le, take_at}
use Rattle.script.specs.Takes.{call_code}
use Rattle.script.specs.Instructions.{call_of, called}
use Rattle.script.specs.Instructions as instructions
use Rattle.script.proofs.Codes.{call-row}
use Rattle.script.proofs.Lend.{front_is, call_left}
use Rattle.script.proofs.Told.{tellable, told}
use Rattle.script.proofs.take_call.Goals as goal
use Rattle.script.proofs.take_call.Goals.{After-make_call-outcome}

-- the room is as long as it was lent to the call, and lent again it is what the call left
room-long : (c : After-make_call-outcome) → length c.make_call-outcome.new.room ≡ c.room_for-n.result
room-long c =
    let r = c.room_for-n in
    c.make_call-outcome.auto.room ∙ length-take-le r.result r.new.room (omega (arith, r.ensures.0, r.auto.room, c.requires.0.1))

again : (c : After-make_call-outcome)
    → let n = c.room_for-n.result in
    let room = c.make_call-outcome.new.room in
    take n (room ++ drop n c.room_for-n.new.room) ≡ room
again c =
    let r = c.room_for-n in
    take_at c.make_call-outcome.new.room (drop r.result r.new.room) r.result (room-long c)

pub room_for-n-requires : goal.room_for-n-requires
room_for-n-requires c =
    (c.requires.0.1, c.requires.0.2.1, c.requires.1)

pub slice_bounds-make_call-end-2 : goal.slice_bounds-make_call-end-2
slice_bounds-make_call-end-2 c =
    sym (length-take-le c.args.lent.memory c.args.memory.now (omega (arith, c.requires.0.0, c.requires.0.2.0)))

pub slice_bounds-make_call-end-4 : goal.slice_bounds-make_call-end-4
slice_bounds-make_call-end-4 c =
    let r = c.room_for-n in
    sym (length-take-le r.result r.new.room (omega (arith, r.ensures.0, r.auto.room, c.requires.0.1)))

pub slice_bounds-write_answer-end-2 : goal.slice_bounds-write_answer-end-2
slice_bounds-write_answer-end-2 c =
    let places = goal.at.slice_bounds-write_answer-end-2 c in
    sym (ap length (again places.After-make_call-outcome) ∙ room-long places.After-make_call-outcome)

pub write_answer-requires : goal.write_answer-requires
write_answer-requires c =
    let a = c.args in
    let r = c.room_for-n in
    let code = call_code a.made in
    let made = call_of code in
    let m = take a.lent.memory a.memory.now in
    let h = take r.result r.new.room in
    rw (again (goal.at.write_answer-requires c).After-make_call-outcome)
    (tellable made a.body.now m h c.make_call-outcome.ensures a.page.now (omega (arith, length-take-le r.result r.new.room (omega (arith, r.ensures.0, r.auto.room, c.requires.0.1)), r.ensures.0, c.requires.0.3)))

pub returns : goal.returns
returns c =
    let places = goal.at.returns c in
    let a = c.args in
    let r = c.room_for-n in
    let code = call_code a.made in
    let made = call_of code in
    let m = take a.lent.memory a.memory.now in
    let h = take r.result r.new.room in
    let g = c.make_call-outcome.ensures in
    let w = told made a.body.now m h g code (rw (again places.After-make_call-outcome) at c.write_answer.ensures) in (
      c.requires.1,
      call_left _ (c.requires.0.2.0, r.ensures.0) code (called made a.body.now m h) c.make_call-outcome.new.memory a.memory.now c.make_call-outcome.new.room a.room.now r.new.room _
          (call-row a.made a.body.now m (take a.lent.room a.room.now) ∙ ap (λ (x : List ℕ). instructions.answered code (called made a.body.now m x)) (sym (front_is a.room.now _ r.ensures.1)))
          w.1 g.memory_is g.room_is (omega (arith, w.0, length-take-le r.result r.new.room (omega (arith, r.ensures.0, r.auto.room, c.requires.0.1)), r.ensures.0)) c.requires.0.0 r.ensures.1 (c.make_call-outcome.auto.memory ∙ length-take-le c.args.lent.memory c.args.memory.now (omega (arith, c.requires.0.0, c.requires.0.2.0))) (room-long places.After-make_call-outcome),
    )
