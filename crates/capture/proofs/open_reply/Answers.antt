-- `capture::open_reply` meets its contract.
use mathlib.Core.Path.{sym, ◌∙◌}
use Rattle.contents.proofs.Elements.{walked-inside}
use Rattle.capture.proofs.Openings.{reply_cut, reply-names_cut, reply-status_cut, reply_opened}
use Rattle.capture.proofs.open_reply.Goals as goal

pub returns-in_err-k : goal.returns-in_err-k
returns-in_err-k c = c.from_residual.ensures ∙ reply_cut _ (sym c.in_err-k.was ∙ c.walk.ensures)

pub open_names-requires : goal.open_names-requires
open_names-requires c =
    (walked-inside _ _ (sym c.in_ok-k.was ∙ c.walk.ensures)).0.0

pub returns-in_err-with_names : goal.returns-in_err-with_names
returns-in_err-with_names c =
    c.from_residual-in_err-with_names.ensures ∙ reply-names_cut _ _ (sym c.in_ok-k.was ∙ c.walk.ensures) _ c.nothing_left.ensures (sym c.in_err-with_names.was ∙ c.open_names.ensures)

pub open_status-requires : goal.open_status-requires
open_status-requires c =
    let i = (walked-inside _ _ (sym c.in_ok-k.was ∙ c.walk.ensures)).1 in
    (i.0, i.1)

pub returns-in_err-with_status : goal.returns-in_err-with_status
returns-in_err-with_status c =
    c.from_residual-in_err-with_status.ensures ∙ reply-status_cut _ _ (sym c.in_ok-k.was ∙ c.walk.ensures) _ c.nothing_left.ensures _ (sym c.in_ok-with_names.was ∙ c.open_names.ensures)
    (sym c.in_err-with_status.was ∙ c.open_status.ensures)

pub open_result-requires : goal.open_result-requires
open_result-requires c =
    let i = (walked-inside _ _ (sym c.in_ok-k.was ∙ c.walk.ensures)).2 in
    (i.0, i.1)

pub returns : goal.returns
returns c =
    c.open_result.ensures
    ∙ reply_opened _ _ (sym c.in_ok-k.was ∙ c.walk.ensures) _ c.nothing_left.ensures _ (sym c.in_ok-with_names.was ∙ c.open_names.ensures)
    _ (sym c.in_ok-with_status.was ∙ c.open_status.ensures)
