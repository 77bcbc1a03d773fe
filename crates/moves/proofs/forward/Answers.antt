-- `moves::forward` meets its contract.
use native.Mathlib.Omega.{arith}
use mathlib.Core.Path.{◌≡◌, refl, sym, ◌∙◌}
use mathlib.Core.Bool.{true}
use mathlib.Core.List.{◌∷◌}
use lib.ListN.{length-set}
use Rattle.meaning.specs.Moves.{sound_old}
use Rattle.meaning.proofs.Sound.{opened}
use Rattle.meaning.proofs.Moved.{old_sound, forward_1, forward_16, forward-done}
use Rattle.moves.specs.declared.Refusal.TheVariants.{MemoryUnsound, RoomNotExact}
use Rattle.moves.proofs.Rooms.{gives_number, gives_moved, filled_behind}
use Rattle.moves.proofs.forward.Goals as goal
use Rattle.moves.proofs.forward.Goals.{Else-not-sound_old}

tested : (c : Else-not-sound_old) → sound_old c.args.memory.now ≡ true
tested c = sym c.sound_old.ensures ∙ c.if-not-sound_old.false

pub returns-then-not-sound_old : goal.returns-then-not-sound_old
returns-then-not-sound_old c =
    let a = c.args in
    gives_number a.memory.now a.room.now 1 MemoryUnsound (forward_1 a.memory.now a.room.now (sym c.sound_old.ensures ∙ c.if-not-sound_old.true)) refl

pub returns-then-room-ne-FORM_B_LENGTH : goal.returns-then-room-ne-FORM_B_LENGTH
returns-then-room-ne-FORM_B_LENGTH c =
    let a = c.args in
    gives_number a.memory.now a.room.now 16 RoomNotExact (forward_16 a.memory.now a.room.now (tested (goal.at.returns-then-room-ne-FORM_B_LENGTH c).Else-not-sound_old) c.if-room-ne-FORM_B_LENGTH.true) refl

pub append-requires : goal.append-requires
append-requires c =
    simp length-set (omega (arith, c.if-room-ne-FORM_B_LENGTH.false, (opened _ (old_sound _ (tested (goal.at.append-requires c).Else-not-sound_old))).long))

pub shape_of-room : goal.shape_of-room
shape_of-room c =
    simp length-set at c.append.auto.out

pub returns : goal.returns
returns c =
    let a = c.args in
    let m = a.memory.now in
    let s = tested (goal.at.returns c).Else-not-sound_old in
    let l = (opened m (old_sound m s)).long in
    let w = c.append.ensures in
    gives_moved (2 ∷ m) m _ (forward-done m a.room.now s c.if-room-ne-FORM_B_LENGTH.false) (omega (arith, w.0, l))
    (w.1 ∙ filled_behind 2 a.room.now m (omega (arith, c.if-room-ne-FORM_B_LENGTH.false, l)))
