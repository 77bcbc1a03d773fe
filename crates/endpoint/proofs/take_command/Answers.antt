-- `endpoint::take_command` meets its contract.
use Prim.Native.Nat.{ℕ, ◌+◌, ◌-◌, ◌*◌, ◌<◌}
use native.Mathlib.Omega.{arith}
use mathlib.Core.Path.{◌≡◌, refl, sym, ap, ◌∙◌}
use mathlib.Core.Logic.{inl, inr}
use lib.ListN.{length, take, drop, length-take}
use Rattle.meaning.specs.Octets.{octet, at16}
use Rattle.meaning.specs.Calls.{number_only, operations, located}
use Rattle.meaning.proofs.Profiles.{in_sound}
use Rattle.meaning.proofs.Numbers.{Taken, Measured, message_5, message_6}
use Rattle.endpoint.specs.declared.Refusal.TheVariants.{LengthWrong}
use Rattle.std.proofs.lemmas.Result.{err_from_is_err_and}
use Rattle.operation.specs.Handing.{wholeness}
use Rattle.operation.proofs.Turns.{whole_some, broken_none}
use Rattle.endpoint.proofs.Exits.{gives_number, gives_broken, list_is, not_whole, message-command}
use Rattle.endpoint.proofs.take_command.Goals as goal
use Rattle.endpoint.proofs.take_command.Goals.{After-list-1, After-whole, Else-sent-n, Start}

taken : (c : Start) → Taken c.args.profile c.args.memory.now c.args.sent.now
taken c = record { is_sound = c.requires.0; nonzero = c.requires.1; short = c.requires.2 }

-- L is there, not 0, and not past the end
measured : (c : Else-sent-n) → Measured c.args.profile c.args.memory.now c.args.sent.now
unfolding at16
measured c =
    let l = c.get16-n.ensures.0 in
    record {
      taken = record { is_sound = c.requires.0; nonzero = c.requires.1; short = c.requires.2 };
      type = c.requires.3;
      there = c.if-sent-lt-COMMAND_HEAD.false;
      not_zero = omega (arith, l, c.if-n-eq0.false);
      inside = omega (arith, l, c.if-sent-n.false);
    }

-- the operations as they are lent on
lent : (c : After-list-1) → take (3 + c.get16-n.result - 3) (drop 3 c.args.sent.now) ≡ operations c.args.sent.now
lent c = list_is c.args.sent.now c.get16-n.result c.get16-n.ensures.0

-- what is told of the operations
told : (c : After-whole) → c.whole.result ≡ wholeness c.args.profile (operations c.args.sent.now)
told c = c.whole.ensures ∙ ap (wholeness c.args.profile) (list_is c.args.sent.now c.get16-n.result c.get16-n.ensures.0)

pub returns-then-sent-lt-COMMAND_HEAD : goal.returns-then-sent-lt-COMMAND_HEAD
returns-then-sent-lt-COMMAND_HEAD c =
    let a = c.args in
    gives_number a.memory.now a.room.now 5 LengthWrong (message_5 a.profile a.memory.now a.sent.now a.room.now (taken (goal.at.returns-then-sent-lt-COMMAND_HEAD c).Start) c.requires.3 (inl c.if-sent-lt-COMMAND_HEAD.true)) refl refl

pub returns-then-n-eq0 : goal.returns-then-n-eq0
unfolding at16
returns-then-n-eq0 c =
    let a = c.args in
    gives_number a.memory.now a.room.now 5 LengthWrong
    (message_5 a.profile a.memory.now a.sent.now a.room.now (taken (goal.at.returns-then-n-eq0 c).Start) c.requires.3 (inr (inl (sym c.get16-n.ensures.0 ∙ c.if-n-eq0.true)))) refl refl

pub returns-then-sent-n : goal.returns-then-sent-n
unfolding at16
returns-then-sent-n c =
    let a = c.args in
    let h : length a.sent.now < 3 + (octet a.sent.now 1 * 256 + octet a.sent.now 2) = omega (arith, c.if-sent-n.true, c.get16-n.ensures.0) in
    gives_number a.memory.now a.room.now 5 LengthWrong (message_5 a.profile a.memory.now a.sent.now a.room.now (taken (goal.at.returns-then-sent-n c).Start) c.requires.3 (inr (inr h))) refl refl

pub carry_out-requires : goal.carry_out-requires
carry_out-requires c =
    (in_sound _ _ c.requires.0, whole_some _ _ (sym c.in_ok-whole.was ∙ c.whole.ensures), rw length-take (omega (arith, c.requires.2, c.if-sent-n.false)))

pub returns : goal.returns
returns c =
    let places = goal.at.returns c in
    let a = c.args in
    let w = whole_some _ _ (sym c.in_ok-whole.was ∙ told places.After-whole) in
    let e = message-command a.profile a.memory.now a.sent.now a.room.now (measured places.Else-sent-n) w in
    rw (e, sym (lent places.After-list-1)) c.carry_out.ensures

pub returns-in_err-whole : goal.returns-in_err-whole
returns-in_err-whole c =
    let places = goal.at.returns-in_err-whole c in
    let a = c.args in
    let p = err_from_is_err_and c.from_residual.result c.from_residual.ensures.1 in
    let b = broken_none _ _ _ (sym c.in_err-whole.was ∙ told places.After-whole) in
    rw (p.1, p.2)
    (gives_broken a.memory.now a.room.now _
    (message_6 a.profile a.memory.now a.sent.now a.room.now (measured places.Else-sent-n) (not_whole _ b.0)
    ∙ ap (λ (q : ℕ). located q (number_only 6 a.memory.now a.room.now)) (sym b.1)))
