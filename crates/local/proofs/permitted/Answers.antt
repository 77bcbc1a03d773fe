-- `local::permitted` meets its contract.
use mathlib.Core.Path.{◌≡◌, refl, sym, ap, ◌∙◌}
use Rattle.meaning.specs.Table.{row_at, by_port}
use Rattle.table.proofs.Rows.{owner_is, set_by_port}
use Rattle.local.proofs.Values.{permitted_tests}
use Rattle.local.proofs.permitted.Goals as goal
use Rattle.local.proofs.permitted.Goals.{After-eq}

-- what is known where the owner has been asked
owned : (c : After-eq) → by_port (row_at c.place_of-k.result).owner ≡ c.eq.result
owned c =
    sym (c.eq.ensures ∙ set_by_port c.row_at.result.owner ∙ ap by_port (owner_is _ _ c.row_at.ensures.0))

pub returns-then-is_empty : goal.returns-then-is_empty
returns-then-is_empty c =
    let a = c.args in
    let o = owned (goal.at.returns-then-is_empty c).After-eq ∙ c.if-eq.true in
    let z = sym c.is_empty.ensures ∙ c.if-is_empty.true in
    c.if-is_empty.true ∙ sym (permitted_tests a.name c.place_of-k.result a.value.now c.place_of-k.ensures ∙ rw (o, z) refl)

pub returns-else-is_empty : goal.returns-else-is_empty
returns-else-is_empty c =
    let a = c.args in
    let o = owned (goal.at.returns-else-is_empty c).After-eq ∙ c.if-eq.true in
    let z = sym c.is_empty.ensures ∙ c.if-is_empty.false in
    c.permits.ensures ∙ sym (permitted_tests a.name c.place_of-k.result a.value.now c.place_of-k.ensures ∙ rw (o, z) refl)

pub returns-else-eq : goal.returns-else-eq
returns-else-eq c =
    let a = c.args in
    let o = owned (goal.at.returns-else-eq c).After-eq ∙ c.if-eq.false in
    c.if-eq.false ∙ sym (permitted_tests a.name c.place_of-k.result a.value.now c.place_of-k.ensures ∙ rw o refl)
