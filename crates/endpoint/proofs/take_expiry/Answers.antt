-- `endpoint::take_expiry` meets its contract.
use Prim.Native.Nat.{◌+◌}
use native.Mathlib.Omega.{arith}
use mathlib.Core.Path.{◌≡◌, refl, sym, ◌∙◌}
use mathlib.Core.Bool.{true}
use mathlib.Core.List.{[]}
use Rattle.meaning.specs.Memory.{waiting, expiries, set_timer}
use Rattle.meaning.specs.Calls.{when_given_up}
use Rattle.meaning.proofs.Numbers.{expiry_8}
use Rattle.meaning.proofs.Kept.{idled}
use Rattle.meaning.proofs.Timer.{expiry_again, expiry_given_up}
use Rattle.notification.specs.Moments.{moment_of}
use Rattle.endpoint.specs.declared.Done.TheVariants.{SendAgain, GivenUp}
use Rattle.endpoint.specs.declared.Refusal.TheVariants.{Idle}
use Rattle.endpoint.proofs.Exits.{gives_number, gives_left, counted_on}
use Rattle.endpoint.proofs.take_expiry.Goals as goal
use Rattle.endpoint.proofs.take_expiry.Goals.{Else-not-waiting}

waits : (c : Else-not-waiting) → waiting c.args.memory.now ≡ true
waits c = sym c.waiting.ensures ∙ c.if-not-waiting.false

pub returns-then-not-waiting : goal.returns-then-not-waiting
returns-then-not-waiting c p s =
    let m = c.args.memory.now in
    gives_number m [] 8 Idle (expiry_8 p m s (sym c.waiting.ensures ∙ c.if-not-waiting.true)) refl refl

pub returns-then-n-lt-EXPIRIES_MOST : goal.returns-then-n-lt-EXPIRIES_MOST
returns-then-n-lt-EXPIRIES_MOST c p s =
    let e = c.expiries-n.ensures in
    let m = c.args.memory.now in
    gives_left (set_timer m 1 (expiries m + 1)) 20 SendAgain (expiry_again p m s (waits (goal.at.returns-then-n-lt-EXPIRIES_MOST c).Else-not-waiting) (omega (arith, e, c.if-n-lt-EXPIRIES_MOST.true))) refl refl
    (counted_on m e c.set_timer.ensures)

pub returns : goal.returns
unfolding moment_of
returns c p s =
    let e = c.expiries-n.ensures in
    let m = c.args.memory.now in
    gives_left (idled when_given_up m) 21 GivenUp (expiry_given_up p m s (waits (goal.at.returns c).Else-not-waiting) (omega (arith, e, c.if-n-lt-EXPIRIES_MOST.false))) refl refl c.end_wait.ensures
