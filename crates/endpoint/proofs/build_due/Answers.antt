-- `endpoint::build_due` meets its contract.
use native.Mathlib.Nat.{zero-add}
use native.Mathlib.Omega.{arith}
use mathlib.Core.Path.{◌≡◌, refl, sym, ◌∙◌}
use mathlib.Core.Bool.{false}
use Rattle.meaning.specs.Table.{entry_count}
use Rattle.meaning.specs.Memory.{set_timer, waiting}
use Rattle.meaning.specs.Calls.{notification, when_sent, turned}
use Rattle.meaning.proofs.Timer.{build_does}
use Rattle.meaning.proofs.Profiles.{in_sound}
use Rattle.meaning.proofs.Numbers.{build_11, build_10}
use Rattle.records.proofs.Pieces.{at_start}
use Rattle.notification.proofs.Reported.{due_small, none_counted, some_counted}
use Rattle.endpoint.specs.declared.Refusal.TheVariants.{NotificationRoomTooSmall, AlreadyWaiting, NothingPending}
use Rattle.endpoint.proofs.Exits.{gives_done, gives_number, build_nothing}
use Rattle.endpoint.proofs.build_due.Goals as goal
use Rattle.endpoint.proofs.build_due.Goals.{Else-waiting}

idle : (c : Else-waiting) → waiting c.args.memory.now ≡ false
idle c = sym c.waiting.ensures ∙ c.if-waiting.false

pub returns-then-room-lt-NOTIFICATION_ROOM : goal.returns-then-room-lt-NOTIFICATION_ROOM
returns-then-room-lt-NOTIFICATION_ROOM c =
    let a = c.args in
    gives_number a.memory.now a.room.now 11 NotificationRoomTooSmall (build_11 _ a.memory.now a.room.now c.requires c.if-room-lt-NOTIFICATION_ROOM.true) refl refl

pub returns-then-waiting : goal.returns-then-waiting
returns-then-waiting c =
    let a = c.args in
    gives_number a.memory.now a.room.now 10 AlreadyWaiting (build_10 _ a.memory.now a.room.now c.requires c.if-room-lt-NOTIFICATION_ROOM.false (sym c.waiting.ensures ∙ c.if-waiting.true)) refl refl

pub overflow_add-due : goal.overflow_add-due
overflow_add-due c =
    let n = c.count-due in
    let d = due_small c.args.profile c.args.memory.now n.result (n.ensures _) (in_sound _ _ c.requires) in
    omega (arith, d.1, d.2)

pub returns-then-due-eq0 : goal.returns-then-due-eq0
returns-then-due-eq0 c =
    let n = c.count-due in
    let a = c.args in
    gives_number a.memory.now a.room.now 9 NothingPending
    (build_nothing _ a.memory.now a.room.now c.requires c.if-room-lt-NOTIFICATION_ROOM.false (idle (goal.at.returns-then-due-eq0 c).Else-waiting) (none_counted a.profile a.memory.now n.result (n.ensures _) c.if-due-eq0.true)) refl refl

pub write-end-requires : goal.write-end-requires
write-end-requires c =
    (in_sound _ _ c.requires, c.count-due.ensures _, c.if-room-lt-NOTIFICATION_ROOM.false)

pub returns : goal.returns
returns c =
    let n = c.count-due in
    let m = c.args.memory.now in
    let r = c.args.room.now in
    let w = c.write-end.ensures in
    gives_done (notification c.args.profile m) (turned when_sent entry_count (set_timer m 1 0)) r _
    (build_does _ m r c.requires c.if-room-lt-NOTIFICATION_ROOM.false (idle (goal.at.returns c).Else-waiting) (some_counted c.args.profile m n.result (n.ensures _) c.if-due-eq0.false))
    (w.0 ∙ zero-add _) c.begin_wait.ensures (w.1 ∙ at_start r (notification c.args.profile m))
