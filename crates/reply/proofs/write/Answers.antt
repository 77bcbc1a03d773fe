-- `reply::write` meets its contract.
use Prim.Native.Nat.{◌≤◌}
use mathlib.Core.Path.{◌≡◌, sym, ap, ◌∙◌}
use mathlib.Core.Bool.{false}
use lib.ListN.{length}
use Rattle.meaning.specs.Operation.{parse, or_none}
use Rattle.meaning.specs.Reply.{Records, complete}
use Rattle.octets.specs.Filling.{Filled}
use Rattle.records.proofs.Pieces.{Left, left_fits, left_last, at_start}
use Rattle.command.proofs.Unchanged.{after_unchanged}
use Rattle.tally.specs.declared.Tally.{Tally}
use Rattle.tally.specs.Tallies.{tally_of}
use Rattle.tally.proofs.Lengths.{asked-names}
use Rattle.section.specs.Kinds.{order, records_of}
use Rattle.section.specs.Places.{place_of}
use Rattle.reply.specs.Sections.{preface, begins}
use Rattle.reply.proofs.Parts.{fits_of, pieces, type_fits, names_fit, after-names}
use Rattle.reply.proofs.Prefaces.{prefaces_fit, sections_fit, pieces_written}
use Rattle.reply.proofs.write.Goals as goal
use Rattle.reply.proofs.write.Goals.{After-write_capabilities-at, After-write_prefaces-starts, Start}

-- what is known from the start
module _ (c : Start) where
  abbrev rs : Records
  rs = records_of c.args.profile c.args.m.now c.args.list.now

  room : length (complete c.args.profile rs) ≤ length c.args.out.now
  room = (fits_of _ c.args.m.now c.args.list.now c.args.t _ c.requires.1).in_room

  names-asked : c.args.t.capabilities ≡ rs.capabilities
  names-asked = ap (λ (t : Tally). t.capabilities) c.requires.1.0 ∙ asked-names rs

  -- the copy is still the memory where nothing may have changed it
  unchanged : c.args.changed ≡ false → c.args.copy.now ≡ c.args.m.now
  unchanged e = c.requires.0.3 ∙ after_unchanged _ c.args.m.now (or_none (parse _ c.args.list.now)) (sym c.requires.0.4 ∙ e)

-- behind the names the pieces are left
module _ (c : After-write_capabilities-at) where
  abbrev all : Records
  all = records_of c.args.profile c.args.m.now c.args.list.now

  begun : length (complete c.args.profile all) ≤ length c.args.out.now → c.args.t.capabilities ≡ all.capabilities
      → Left c.args.out.now 0 (complete c.args.profile all) c.write_capabilities-at.new.out c.write_capabilities-at.result (pieces all)
  begun r n = after-names _ all c.args.out.now r c.write_octet-names.ensures (rw n at c.write_capabilities-at.ensures)

-- what stands before the records is written
module _ (c : After-write_prefaces-starts) where
  abbrev told : Records
  told = records_of c.args.profile c.args.m.now c.args.list.now

  prefaced : Filled order (begins (tally_of told) c.write_capabilities-at.result) (preface (tally_of told)) c.write_capabilities-at.new.out
      (place_of c.write_prefaces-starts.result) c.write_prefaces-starts.new.out
  prefaced = rw c.requires.1.0 at c.write_prefaces-starts.ensures

pub write_octet-names-requires : goal.write_octet-names-requires
write_octet-names-requires c =
    let places = goal.at.write_octet-names-requires c in
    type_fits _ (rs places.Start) c.args.out.now (room places.Start)

pub write_capabilities-at-requires : goal.write_capabilities-at-requires
write_capabilities-at-requires c =
    let places = goal.at.write_capabilities-at-requires c in
    rw (names-asked places.Start) (names_fit _ (rs places.Start) c.args.out.now (room places.Start) c.write_octet-names.ensures)

pub write_prefaces-starts-requires : goal.write_prefaces-starts-requires
write_prefaces-starts-requires c =
    let places = goal.at.write_prefaces-starts-requires c in
    let k = begun places.After-write_capabilities-at (room places.Start) (names-asked places.Start) in
    let h = prefaces_fit (rs places.Start) c.write_capabilities-at.result c.write_capabilities-at.new.out (left_fits k) in
    ((c.args.profile, rw k.same c.requires.1.2), rw c.requires.1.0 h)

pub renew-requires : goal.renew-requires
renew-requires c =
    (c.told-copy ∙ sym c.told-m, unchanged (goal.at.renew-requires c).Start)

pub write-requires : goal.write-requires
write-requires c =
    let places = goal.at.write-requires c in
    let k = begun places.After-write_capabilities-at (room places.Start) (names-asked places.Start) in
    rw c.renew.ensures
    (c.requires.0.0, c.requires.0.1, c.requires.0.2, sections_fit (rs places.Start) c.write_capabilities-at.result c.write_capabilities-at.new.out (left_fits k) c.write_prefaces-starts.result c.write_prefaces-starts.new.out (prefaced places.After-write_prefaces-starts))

pub returns : goal.returns
returns c =
    let places = goal.at.returns c in
    let s = rs places.Start in
    let b = begun places.After-write_capabilities-at (room places.Start) (names-asked places.Start) in
    let k = rw c.renew.ensures at c.write.ensures.out_after in
    let p = pieces_written s c.write_capabilities-at.result c.write_capabilities-at.new.out (left_fits b) c.write_prefaces-starts.result c.write_prefaces-starts.new.out (prefaced places.After-write_prefaces-starts) _ k in
    record { copy_after = rw c.renew.ensures at c.write.ensures.copy_after; out_after = (left_last b p).1 ∙ at_start c.args.out.now (complete c.args.profile s) }
