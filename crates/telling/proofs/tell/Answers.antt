-- `telling::tell` meets its contract.
use native.Mathlib.Omega.{arith}
use mathlib.Core.Path.{sym, ap, ◌∙◌}
use Rattle.meaning.proofs.Lists.{octets_each}
use Rattle.capture.specs.Handing.{number_of}
use Rattle.page.proofs.Prints.{room_behind, prints_both}
use Rattle.telling.specs.Remaining.{sizes}
use Rattle.telling.proofs.Messages.{number_small, accepted_number, refused-lines, accepted_lines, number_is, first-onward, head-short, accepted_length, first_fits}
use Rattle.telling.proofs.tell.Goals as goal

pub write_line-requires : goal.write_line-requires
write_line-requires c = (omega (arith, c.number.ensures, number_small c.in-Err.refusal), omega (arith, c.requires))

pub returns-in-Err : goal.returns-in-Err
unfolding number_of
returns-in-Err c =
    let octets = octets_each c.args.message.now (λ i. omega (arith, c.type_inv.message i)) in
    let n = c.number.ensures ∙ ap number_of (sym c.in-Err.is) ∙ number_is _ octets _ c.first-first.ensures in
    rw (sym (refused-lines _ _ n (λ z. omega (arith, z, c.number.ensures, number_small c.in-Err.refusal)))) c.write_line.ensures

pub write_head-requires : goal.write_head-requires
write_head-requires c =
    let octets = octets_each c.args.message.now (λ i. omega (arith, c.type_inv.message i)) in
    let e = sym (number_is _ octets _ c.first-first.ensures) ∙ accepted_number _ c.in_default.not-Err in
    ((accepted_length _ e).0, omega (arith, c.requires))

pub write_records-requires : goal.write_records-requires
write_records-requires c =
    let octets = octets_each c.args.message.now (λ i. omega (arith, c.type_inv.message i)) in
    let e = sym (number_is _ octets _ c.first-first.ensures) ∙ accepted_number _ c.in_default.not-Err in
    let o = first-onward _ octets e _ c.first-first.ensures in
    let w = c.write_head in
    (o.ready, room_behind 98313 _ c.requires w.ensures (omega (arith, ap sizes o.left, first_fits _ octets e, head-short c.args.message.now)))

pub returns : goal.returns
returns c =
    let octets = octets_each c.args.message.now (λ i. omega (arith, c.type_inv.message i)) in
    let e = sym (number_is _ octets _ c.first-first.ensures) ∙ accepted_number _ c.in_default.not-Err in
    let o = first-onward _ octets e _ c.first-first.ensures in
    let w = c.write_head in
    let s = c.args.message.now in
    rw (sym (accepted_lines s e), sym o.left)
    (prints_both (omega (arith, head-short s, c.requires)) w.ensures c.write_records.ensures)
