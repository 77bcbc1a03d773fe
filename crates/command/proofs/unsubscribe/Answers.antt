-- `command::unsubscribe` meets its contract.
use mathlib.Core.Path.{refl, sym, ◌∙◌}
use Rattle.command.proofs.Sets.{lists-place, place_listed, place_unlisted, unsubscribe-listed, unsubscribe_unlisted}
use Rattle.command.proofs.unsubscribe.Goals as goal

pub unsubscribe-requires : goal.unsubscribe-requires
unsubscribe-requires c = lists-place _ _ (place_listed _ _ _ (sym c.in-Some.is ∙ c.listed_place.ensures)).0

pub returns-in-Some : goal.returns-in-Some
returns-in-Some c =
    let a = c.args in
    let e = place_listed _ _ _ (sym c.in-Some.is ∙ c.listed_place.ensures) in
    unsubscribe-listed a.profile a.m.now a.name _ e.1 e.0 c.unsubscribe.ensures

pub returns-in_default : goal.returns-in_default
returns-in_default c =
    let a = c.args in
    unsubscribe_unlisted a.profile a.m.now a.name _ refl (place_unlisted _ _ (sym c.in_default.is ∙ c.listed_place.ensures))
