-- `endpoint::build` meets its contract.
use native.Mathlib.Omega.{arith}
use mathlib.Core.Path.{◌≡◌, refl, sym, ◌∙◌}
use mathlib.Core.Bool.{true}
use Rattle.std.proofs.lemmas.Option.{MatchOption-at_some}
use Rattle.meaning.specs.FormB.{sound_form_b}
use Rattle.meaning.proofs.Sendings.{build_in, gives}
use Rattle.meaning.proofs.Formed.{gives_lent, asks_form, room_of}
use Rattle.endpoint.proofs.Lent.{form-long, taken_apart, behind-in, gives_formed, gives_unsound}
use Rattle.endpoint.proofs.build.Goals as goal
use Rattle.endpoint.proofs.build.Goals.{Else-not-sound_form_b}

tested : (c : Else-not-sound_form_b) → sound_form_b c.args.memory.now ≡ true
tested c = sym c.sound_form_b.ensures ∙ c.if-not-sound_form_b.false

pub returns-then-not-sound_form_b : goal.returns-then-not-sound_form_b
unfolding gives_lent asks_form room_of
returns-then-not-sound_form_b c =
    let a = c.args in
    gives_unsound a.memory.now (build_in a.room.now) refl (sym c.sound_form_b.ensures ∙ c.if-not-sound_form_b.true)

pub unwrap-requires : goal.unwrap-requires
unwrap-requires c = c.split_first_mut.ensures.variant.1 (omega (arith, form-long _ (tested (goal.at.unwrap-requires c).Else-not-sound_form_b)))

pub unwrap-requires-2 : goal.unwrap-requires-2
unwrap-requires-2 c =
    let f = MatchOption-at_some _ _ _ c.unwrap.ensures c.split_first_mut.ensures.cases in
    c.as_mut_array.ensures.variant.1 (omega (arith, f.1, form-long _ (tested (goal.at.unwrap-requires-2 c).Else-not-sound_form_b)))

pub build_due-requires : goal.build_due-requires
build_due-requires c =
    let f = MatchOption-at_some _ _ _ c.unwrap.ensures c.split_first_mut.ensures.cases in
    let m = MatchOption-at_some _ _ _ c.unwrap-2.ensures c.as_mut_array.ensures.cases in
    behind-in _ _ (rw (taken_apart _ _ _ _ f m) at (tested (goal.at.build_due-requires c).Else-not-sound_form_b))

pub returns : goal.returns
unfolding gives gives_lent
returns c =
    let a = c.args in
    let f = MatchOption-at_some _ _ _ c.unwrap.ensures c.split_first_mut.ensures.cases in
    let m = MatchOption-at_some _ _ _ c.unwrap-2.ensures c.as_mut_array.ensures.cases in
    let e = taken_apart _ _ _ _ f m in
    let s = rw e at (tested (goal.at.returns c).Else-not-sound_form_b) in
    rw e (gives_formed _ _ s (build_in a.room.now) c.build_due.ensures)
