-- `soundness::cell_sound` meets its contract.
use mathlib.Core.Path.{ap, ◌∙◌}
use mathlib.Core.Bool.{cond}
use Rattle.meaning.specs.Table.{Owner, row_at, by_port}
use Rattle.table.proofs.Rows.{name_is, owner_is}
use Rattle.soundness.proofs.Entries.{cell_found}
use Rattle.soundness.proofs.cell_sound.Goals as goal

pub returns : goal.returns
returns c =
    let a = c.args in
    let r = c.row_at-row in
    let x = row_at a.k in
    cell_found a.waiting x a.c.now
    c.get16.ensures.0
    (name_is r.result x r.ensures.0)
    (c.flag_limit-limit.ensures ∙ ap (λ (o : Owner). cond (by_port o) (cond a.waiting 16 8) 4) (owner_is r.result x r.ensures.0))
    c.marked-subscribed.ensures
