-- `endpoint::take_message` meets its contract.
use native.Mathlib.Omega.{arith}
use mathlib.Core.Path.{refl, sym, ◌∙◌}
use borrow.Author.Tests.{eqb-true, eqb-false}
use Rattle.meaning.proofs.Profiles.{in_sound}
use Rattle.meaning.proofs.Numbers.{Taken, message_2, message_3, message_4}
use Rattle.endpoint.specs.declared.Refusal.TheVariants.{MessageEmpty, MessageTooLong, TypeUnknown}
use Rattle.endpoint.proofs.Exits.{gives_number, message-acknowledgement}
use Rattle.endpoint.proofs.take_message.Goals as goal
use Rattle.endpoint.proofs.take_message.Goals.{Else-sent-gt-MESSAGE_MOST}

taken : (c : Else-sent-gt-MESSAGE_MOST) → Taken c.args.profile c.args.memory.now c.args.sent.now
taken c = record { is_sound = c.requires; nonzero = omega (arith, eqb-false _ 0 (sym c.is_empty.ensures ∙ c.if-is_empty.false)); short = c.if-sent-gt-MESSAGE_MOST.false }

pub returns-then-is_empty : goal.returns-then-is_empty
returns-then-is_empty c =
    let a = c.args in
    gives_number a.memory.now a.room.now 2 MessageEmpty (message_2 a.profile a.memory.now a.sent.now a.room.now c.requires (eqb-true _ 0 (sym c.is_empty.ensures ∙ c.if-is_empty.true))) refl refl

pub returns-then-sent-gt-MESSAGE_MOST : goal.returns-then-sent-gt-MESSAGE_MOST
returns-then-sent-gt-MESSAGE_MOST c =
    let a = c.args in
    gives_number a.memory.now a.room.now 3 MessageTooLong (message_3 a.profile a.memory.now a.sent.now a.room.now c.requires c.if-sent-gt-MESSAGE_MOST.true) refl refl

pub take_command-requires : goal.take_command-requires
take_command-requires c =
    let t = taken (goal.at.take_command-requires c).Else-sent-gt-MESSAGE_MOST in
    (t.is_sound, t.nonzero, t.short, c.in-1.is)

pub acknowledge-requires : goal.acknowledge-requires
acknowledge-requires c = in_sound _ _ (taken (goal.at.acknowledge-requires c).Else-sent-gt-MESSAGE_MOST).is_sound

pub returns-in-4 : goal.returns-in-4
returns-in-4 c =
    let a = c.args in
    rw (message-acknowledgement a.profile a.memory.now a.sent.now a.room.now (taken (goal.at.returns-in-4 c).Else-sent-gt-MESSAGE_MOST) c.in-4.is) c.acknowledge.ensures

pub returns-in_default : goal.returns-in_default
returns-in_default c =
    let a = c.args in
    gives_number a.memory.now a.room.now 4 TypeUnknown (message_4 a.profile a.memory.now a.sent.now a.room.now (taken (goal.at.returns-in_default c).Else-sent-gt-MESSAGE_MOST) (λ e. omega arith) (λ e. omega arith)) refl refl
