-- `script::show` meets its contract.
use native.Mathlib.Omega.{arith}
use mathlib.Core.Path.{sym}
use lib.ListN.{take}
use lib.Seq.{length-take-le}
use Rattle.meaning.specs.Delay.{delay}
use Rattle.meaning.specs.FormB.{gates}
use Rattle.text.specs.Lines.{octets_line}
use Rattle.text.proofs.Writes.{octets-short}
use Rattle.script.specs.Instructions.{nanoseconds, instant, gates_line}
use Rattle.script.proofs.Codes.{delay-body, gates-body, memory-row, room_row, delay-row, gates-row}
use Rattle.script.proofs.Instants.{gates-short}
use Rattle.script.proofs.Lend.{line_left, delay-short}
use Rattle.script.proofs.show.Goals as goal

pub slice_bounds-write_octets-end : goal.slice_bounds-write_octets-end
slice_bounds-write_octets-end c =
    sym (length-take-le c.args.lent.memory c.args.memory.now (omega (arith, c.requires.0.0, c.requires.0.2.0)))

pub write_octets-requires : goal.write_octets-requires
write_octets-requires c = omega (arith, slice_bounds-write_octets-end c, c.requires.0.2.0, c.requires.0.3)

pub slice_bounds-write_octets-end-in-Room : goal.slice_bounds-write_octets-end-in-Room
slice_bounds-write_octets-end-in-Room c =
    sym (length-take-le c.args.lent.room c.args.room.now (omega (arith, c.requires.0.1, c.requires.0.2.1)))

pub write_octets-requires-in-Room : goal.write_octets-requires-in-Room
write_octets-requires-in-Room c = omega (arith, slice_bounds-write_octets-end-in-Room c, c.requires.0.2.1, c.requires.0.3)

pub show_delay-requires : goal.show_delay-requires
show_delay-requires c =
    (delay-body c.requires.1 c.in-Delay.is, omega (arith, c.requires.0.3))

pub slice_bounds-show_gates-end : goal.slice_bounds-show_gates-end
slice_bounds-show_gates-end c =
    sym (length-take-le c.args.lent.memory c.args.memory.now (omega (arith, c.requires.0.0, c.requires.0.2.0)))

pub show_gates-requires : goal.show_gates-requires
show_gates-requires c =
    (gates-body c.requires.1 c.in-Gates.is, omega (arith, c.requires.0.3))

pub returns-in-Memory : goal.returns-in-Memory
returns-in-Memory c =
    let m = take c.args.lent.memory c.args.memory.now in (
      c.requires.1,
      line_left c.args.lent c.requires.0.2 (octets_line m) c.args.memory.now c.args.room.now
          (memory-row c.args.body.now (take c.args.lent.memory c.args.memory.now) (take c.args.lent.room c.args.room.now) c.in-Memory.is) c.write_octets.ensures
          (omega (arith, octets-short m, length-take-le c.args.lent.memory c.args.memory.now (omega (arith, c.requires.0.0, c.requires.0.2.0)), c.requires.0.2.0)) c.requires.0.0 c.requires.0.1,
    )

pub returns-in-Room : goal.returns-in-Room
returns-in-Room c =
    let r = take c.args.lent.room c.args.room.now in (
      c.requires.1,
      line_left c.args.lent c.requires.0.2 (octets_line r) c.args.memory.now c.args.room.now
          (room_row c.args.body.now (take c.args.lent.memory c.args.memory.now) (take c.args.lent.room c.args.room.now) c.in-Room.is) c.write_octets-in-Room.ensures
          (omega (arith, octets-short r, length-take-le c.args.lent.room c.args.room.now (omega (arith, c.requires.0.1, c.requires.0.2.1)), c.requires.0.2.1)) c.requires.0.0 c.requires.0.1,
    )

pub returns-in-Delay : goal.returns-in-Delay
returns-in-Delay c = (
  c.requires.1,
  line_left c.args.lent c.requires.0.2 (octets_line (delay (nanoseconds c.args.body.now))) c.args.memory.now c.args.room.now
      (delay-row c.args.body.now (take c.args.lent.memory c.args.memory.now) (take c.args.lent.room c.args.room.now) c.in-Delay.is) c.show_delay.ensures (delay-short (nanoseconds c.args.body.now)) c.requires.0.0 c.requires.0.1,
)

pub returns-in-Gates : goal.returns-in-Gates
returns-in-Gates c =
    let m = take c.args.lent.memory c.args.memory.now in
    let g = gates m (instant c.args.body.now) in (
      c.requires.1,
      line_left c.args.lent c.requires.0.2 (gates_line g) c.args.memory.now c.args.room.now
          (gates-row c.args.body.now m (take c.args.lent.room c.args.room.now) c.in-Gates.is) c.show_gates.ensures
          (omega (arith, gates-short g)) c.requires.0.0 c.requires.0.1,
    )
