-- `command::set_full` meets its contract.
use mathlib.Core.Path.{◌≡◌, refl, sym, ap, ◌∙◌}
use mathlib.Core.Bool.{Bool, true, false, not}
use Rattle.std.proofs.lemmas.Result.{err_from_is_err_and}
use Rattle.meaning.specs.Table.{row_at, place, by_controller}
use Rattle.meaning.specs.Profile.{release18, lists}
use Rattle.wire.specs.Causes.{octet_of}
use Rattle.octets.proofs.Splices.{part_is}
use Rattle.table.proofs.Rows.{owner_is, set_by_controller}
use Rattle.command.specs.Answers.{failed_check}
use Rattle.command.proofs.Sets.{lists-place, place_listed, not_listed, set_unlisted, set_foreign, set-refused, set-done, any_sendable}
use Rattle.command.proofs.set_full.Goals as goal
use Rattle.command.proofs.set_full.Goals.{After-ne, In_ok-k}

-- the place is that of the name, which is listed
at_place : (c : In_ok-k) → (lists release18 c.in_ok-k.k ≡ true) × (c.in_ok-k.k ≡ place c.args.name)
at_place c = place_listed _ _ _ (sym c.in_ok-k.ensures.ok_part ∙ c.listed_place.ensures)

turned : (b : Bool) {a : Bool} → a ≡ not b → b ≡ not a
turned true e = rw e refl
turned false e = rw e refl

-- what is known where the owner has been asked
controls : (c : After-ne) → by_controller (row_at c.in_ok-k.k).owner ≡ not c.ne.result
controls c =
    sym (set_by_controller c.row_at.result.owner ∙ ap by_controller (owner_is _ _ c.row_at.ensures.0)) ∙ turned _ c.ne.ensures

pub returns-in_err-k : goal.returns-in_err-k
unfolding failed_check octet_of
returns-in_err-k c =
    let a = c.args in
    let r = err_from_is_err_and c.from_residual.result c.from_residual.ensures.1 in
    let e = not_listed _ _ _ _ _ c.listed_place.ensures c.in_err-k.ensures.value in
    rw (r.1, r.2, e.1) (set_unlisted release18 a.m.now a.name _ e.0)

pub returns-then-ne : goal.returns-then-ne
unfolding failed_check octet_of
returns-then-ne c =
    let places = goal.at.returns-then-ne c in
    let a = c.args in
    let e = at_place places.In_ok-k in
    set_foreign release18 a.m.now a.name _ _ e.1 e.0 (controls places.After-ne ∙ ap not c.if-ne.true)

pub put_value-requires : goal.put_value-requires
put_value-requires c =
    (c.requires.0, lists-place _ _ (at_place (goal.at.put_value-requires c).In_ok-k).0)

pub returns-then-not-put_value : goal.returns-then-not-put_value
unfolding failed_check octet_of
returns-then-not-put_value c =
    let places = goal.at.returns-then-not-put_value c in
    let a = c.args in
    let k = at_place places.In_ok-k in
    let e = rw (part_is a.s.now a.from a.size) at c.put_value.ensures in
    set-refused release18 a.m.now a.name _ _ k.1 k.0 (controls places.After-ne ∙ ap not c.if-ne.false) (any_sendable _) e.0 e.1 (c.if-not-put_value.true)

pub returns : goal.returns
unfolding failed_check
returns c =
    let places = goal.at.returns c in
    let a = c.args in
    let k = at_place places.In_ok-k in
    let e = rw (part_is a.s.now a.from a.size) at c.put_value.ensures in
    set-done release18 a.m.now a.name _ _ k.1 k.0 (controls places.After-ne ∙ ap not c.if-ne.false) (any_sendable _) e.0 e.1 (c.if-not-put_value.false)
