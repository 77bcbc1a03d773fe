-- `endpoint::take_value` meets its contract.
use mathlib.Core.Path.{◌≡◌, refl, sym, ◌∙◌}
use mathlib.Core.Bool.{true}
use mathlib.Core.List.{[]}
use Rattle.meaning.specs.Calls.{local_permitted, local_memory}
use Rattle.meaning.proofs.Numbers.{local_value_12}
use Rattle.local.proofs.Values.{permitted-place}
use Rattle.endpoint.specs.declared.Done.TheVariants.{Written}
use Rattle.endpoint.specs.declared.Refusal.TheVariants.{NotPermitted}
use Rattle.endpoint.proofs.Exits.{gives_number, gives_left, local_does}
use Rattle.endpoint.proofs.take_value.Goals as goal
use Rattle.endpoint.proofs.take_value.Goals.{Else-not-permitted}

may : (c : Else-not-permitted) → local_permitted c.args.name c.args.value.now ≡ true
may c = sym c.permitted.ensures ∙ c.if-not-permitted.false

pub returns-then-not-permitted : goal.returns-then-not-permitted
returns-then-not-permitted c p s =
    let a = c.args in
    gives_number a.memory.now [] 12 NotPermitted (local_value_12 p a.memory.now a.name a.value.now s (sym c.permitted.ensures ∙ c.if-not-permitted.true)) refl refl

pub store-requires : goal.store-requires
store-requires c =
    let p = rw (sym c.place_of.ensures) at (permitted-place c.args.name c.args.value.now (may (goal.at.store-requires c).Else-not-permitted)) in
    (p.0, p.1)

pub returns : goal.returns
returns c p s =
    let a = c.args in
    gives_left (local_memory a.memory.now c.place_of.result a.value.now) 0 (Written 0)
    (local_does p a.memory.now a.name _ a.value.now c.place_of.ensures s (may (goal.at.returns c).Else-not-permitted)) refl refl c.store.ensures
