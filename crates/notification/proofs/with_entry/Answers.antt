-- `notification::with_entry` meets its contract.
use mathlib.Core.Path.{◌≡◌, sym, ◌∙◌}
use mathlib.Core.Bool.{true}
use Rattle.meaning.specs.Memory.{pending}
use Rattle.notification.proofs.Reported.{more_none, more-absent, more-value}
use Rattle.notification.proofs.with_entry.Goals as goal
use Rattle.notification.proofs.with_entry.Goals.{Else-not-has}

marked : (c : Else-not-has) → pending c.args.m.now c.args.k ≡ true
marked c = sym c.has.ensures ∙ c.if-not-has.false

pub returns-then-not-has : goal.returns-then-not-has
returns-then-not-has c p =
    let a = c.args in
    more_none p a.m.now a.k a.d (sym c.has.ensures ∙ c.if-not-has.true)

pub returns-then-not-has-2 : goal.returns-then-not-has-2
returns-then-not-has-2 c p =
    let a = c.args in
    more-absent p a.m.now a.k a.d (marked (goal.at.returns-then-not-has-2 c).Else-not-has) (sym c.has-2.ensures ∙ c.if-not-has-2.true)

pub returns : goal.returns
returns c p =
    let a = c.args in
    more-value p a.m.now a.k a.d (marked (goal.at.returns c).Else-not-has) (sym c.has-2.ensures ∙ c.if-not-has-2.false) c.body.ensures
