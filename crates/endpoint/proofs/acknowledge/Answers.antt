-- `endpoint::acknowledge` meets its contract.
use Prim.Native.Nat.{◌≤◌}
use native.Mathlib.Omega.{arith}
use mathlib.Core.Path.{◌≡◌, refl, sym, ◌∙◌}
use mathlib.Core.Bool.{true}
use mathlib.Core.List.{[], ◌∷◌}
use lib.ListN.{length}
use borrow.Author.Tests.{eqb-true, eqb-false}
use Rattle.meaning.specs.Memory.{waiting}
use Rattle.meaning.specs.Calls.{when_acknowledged}
use Rattle.meaning.proofs.Kept.{idled}
use Rattle.notification.specs.Moments.{moment_of}
use Rattle.endpoint.specs.declared.Refusal.TheVariants.{Idle, ReplyDoesNotFit}
use Rattle.endpoint.proofs.Exits.{gives_number, gives_done, acknowledgement_8, acknowledgement_7, acknowledgement-fits, first-set}
use Rattle.endpoint.proofs.acknowledge.Goals as goal
use Rattle.endpoint.proofs.acknowledge.Goals.{Else-not-waiting}

waits : (c : Else-not-waiting) → waiting c.args.memory.now ≡ true
waits c = sym c.waiting.ensures ∙ c.if-not-waiting.false

pub returns-then-not-waiting : goal.returns-then-not-waiting
returns-then-not-waiting c =
    let a = c.args in
    gives_number a.memory.now a.room.now 8 Idle (acknowledgement_8 a.memory.now a.room.now (sym c.waiting.ensures ∙ c.if-not-waiting.true)) refl refl

pub returns-then-is_empty : goal.returns-then-is_empty
returns-then-is_empty c =
    let a = c.args in
    gives_number a.memory.now a.room.now 7 ReplyDoesNotFit (acknowledgement_7 a.memory.now a.room.now (waits (goal.at.returns-then-is_empty c).Else-not-waiting) (omega (arith, eqb-true _ 0 (sym c.is_empty.ensures ∙ c.if-is_empty.true)))) refl refl

pub returns : goal.returns
unfolding moment_of
returns c =
    let a = c.args in
    let one : 1 ≤ length a.room.now = omega (arith, eqb-false _ 0 (sym c.is_empty.ensures ∙ c.if-is_empty.false)) in
    gives_done (5 ∷ []) (idled when_acknowledged a.memory.now) a.room.now 1 (acknowledgement-fits a.memory.now a.room.now (waits (goal.at.returns c).Else-not-waiting) one) refl c.end_wait.ensures (first-set a.room.now 5 one)
