-- `reply::write_prefaces` meets its contract: five prefaces, each where the one before and its records end.
use Prim.Native.Nat.{◌+◌, ◌^◌, ◌≤◌, ◌<◌}
use native.Mathlib.Omega.{arith}
use mathlib.Core.Path.{◌≡◌, sym, ap, ◌∙◌}
use lib.ListN.{length}
use borrow.Author.Rules.{rules}
use Rattle.octets.specs.Writing.{Wrote}
use Rattle.records.proofs.Pieces.{wrote_this}
use Rattle.section.specs.Kinds.{Kind, Values, ReadErrors, Updates, UpdateErrors, LongUpdates}
use Rattle.section.proofs.Shares.{fits_at}
use Rattle.reply.specs.Sections.{preface, begins}
use Rattle.reply.proofs.Parts.{few_values, few_read_errors, few_updates, few_update_errors, read_small, set-small, long-small}
use Rattle.reply.proofs.Prefaces.{preface-values, preface-read_errors, preface-updates, preface-update_errors, preface-long_updates, begin₂, begin₃, begin₄, begin₅, prefaces_filled}
use Rattle.reply.proofs.write_prefaces.Goals as goal
use Rattle.reply.proofs.write_prefaces.Goals.{Start, After-write_opening-values, After-write_second_count-read_errors, After-write_opening-updates, After-write_second_count-update_errors}

module _ (c : Start) where
  -- a room's length is a number of 64 bits
  short : length c.args.out.now < 2 ^ 64
  short = search rules

  -- each preface lies within the room
  within : (k : Kind) → begins c.args.t c.args.at k + length (preface c.args.t k) ≤ length c.args.out.now
  within k = fits_at (begins c.args.t c.args.at) (preface c.args.t) _ k c.requires.1

-- ---- what each call wrote

wrote₁ : (c : After-write_opening-values) → Wrote c.args.out.now c.args.at (preface c.args.t Values) c.write_opening-values.result c.write_opening-values.new.out
wrote₁ c = wrote_this _ _ (preface-values c.args.t _ _ c.any_read-reads.ensures c.read_octets-n.ensures.0) c.write_opening-values.ensures

wrote₂ : (c : After-write_second_count-read_errors) → Wrote c.write_opening-values.new.out (c.write_opening-values.result + c.args.t.values.octets) (preface c.args.t ReadErrors) c.write_second_count-read_errors.result c.write_second_count-read_errors.new.out
wrote₂ c = wrote_this _ _ (preface-read_errors c.args.t _ c.any_read-reads.ensures) c.write_second_count-read_errors.ensures

wrote₃ : (c : After-write_opening-updates) → Wrote c.write_second_count-read_errors.new.out (c.write_second_count-read_errors.result + c.args.t.read_errors.octets) (preface c.args.t Updates) c.write_opening-updates.result c.write_opening-updates.new.out
wrote₃ c = wrote_this _ _ (preface-updates c.args.t _ _ c.any_set-sets.ensures c.set_octets-k.ensures.0) c.write_opening-updates.ensures

wrote₄ : (c : After-write_second_count-update_errors) → Wrote c.write_opening-updates.new.out (c.write_opening-updates.result + c.args.t.updates.octets) (preface c.args.t UpdateErrors) c.write_second_count-update_errors.result c.write_second_count-update_errors.new.out
wrote₄ c = wrote_this _ _ (preface-update_errors c.args.t _ c.any_set-sets.ensures) c.write_second_count-update_errors.ensures

-- ---- where each begins, by what those before it wrote

second_at : (c : After-write_opening-values)
    → c.write_opening-values.result + c.args.t.values.octets ≡ begins c.args.t c.args.at ReadErrors
second_at c = begin₂ c.args.t c.args.at (wrote₁ c).0

third_at : (c : After-write_second_count-read_errors)
    → Wrote c.args.out.now c.args.at (preface c.args.t Values) c.write_opening-values.result c.write_opening-values.new.out
    → c.write_second_count-read_errors.result + c.args.t.read_errors.octets ≡ begins c.args.t c.args.at Updates
third_at c w₁ = begin₃ c.args.t c.args.at w₁.0 (wrote₂ c).0

fourth-at : (c : After-write_opening-updates)
    → Wrote c.args.out.now c.args.at (preface c.args.t Values) c.write_opening-values.result c.write_opening-values.new.out
    → Wrote c.write_opening-values.new.out (c.write_opening-values.result + c.args.t.values.octets) (preface c.args.t ReadErrors) c.write_second_count-read_errors.result c.write_second_count-read_errors.new.out
    → c.write_opening-updates.result + c.args.t.updates.octets ≡ begins c.args.t c.args.at UpdateErrors
fourth-at c w₁ w₂ = begin₄ c.args.t c.args.at w₁.0 w₂.0 (wrote₃ c).0

fifth-at : (c : After-write_second_count-update_errors)
    → Wrote c.args.out.now c.args.at (preface c.args.t Values) c.write_opening-values.result c.write_opening-values.new.out
    → Wrote c.write_opening-values.new.out (c.write_opening-values.result + c.args.t.values.octets) (preface c.args.t ReadErrors) c.write_second_count-read_errors.result c.write_second_count-read_errors.new.out
    → Wrote c.write_second_count-read_errors.new.out (c.write_second_count-read_errors.result + c.args.t.read_errors.octets) (preface c.args.t Updates) c.write_opening-updates.result c.write_opening-updates.new.out
    → c.write_second_count-update_errors.result + c.args.t.update_errors.octets ≡ begins c.args.t c.args.at LongUpdates
fifth-at c w₁ w₂ w₃ = begin₅ c.args.t c.args.at w₁.0 w₂.0 w₃.0 (wrote₄ c).0

pub write_opening-values-requires : goal.write_opening-values-requires
unfolding begins
write_opening-values-requires c =
    let a = c.any_read-reads.ensures in
    let n = c.read_octets-n.ensures.0 in (
      λ b. omega (arith, n, read_small _ _ c.args.t c.requires.0.1 (sym a ∙ b)),
      few_values _ _ c.args.t c.requires.0.1,
      omega (arith, within (goal.at.write_opening-values-requires c).Start Values, ap length (preface-values c.args.t _ _ a n)),
    )

pub overflow_add-second : goal.overflow_add-second
overflow_add-second c =
    let places = goal.at.overflow_add-second c in
    let h = within places.Start ReadErrors in
    let e = second_at places.After-write_opening-values in
    let l = short places.Start in
    search rules

pub overflow_add-third : goal.overflow_add-third
overflow_add-third c =
    let places = goal.at.overflow_add-third c in
    let h = within places.Start Updates in
    let e = third_at places.After-write_second_count-read_errors (wrote₁ places.After-write_opening-values) in
    let l = short places.Start in
    search rules

pub overflow_add-fourth : goal.overflow_add-fourth
overflow_add-fourth c =
    let places = goal.at.overflow_add-fourth c in
    let h = within places.Start UpdateErrors in
    let e = fourth-at places.After-write_opening-updates (wrote₁ places.After-write_opening-values) (wrote₂ places.After-write_second_count-read_errors) in
    let l = short places.Start in
    search rules

pub overflow_add-fifth : goal.overflow_add-fifth
overflow_add-fifth c =
    let places = goal.at.overflow_add-fifth c in
    let h = within places.Start LongUpdates in
    let e = fifth-at places.After-write_second_count-update_errors (wrote₁ places.After-write_opening-values) (wrote₂ places.After-write_second_count-read_errors) (wrote₃ places.After-write_opening-updates) in
    let l = short places.Start in
    search rules

pub write_second_count-read_errors-requires : goal.write_second_count-read_errors-requires
write_second_count-read_errors-requires c =
    let places = goal.at.write_second_count-read_errors-requires c in (
      few_read_errors _ _ c.args.t c.requires.0.1,
      omega (arith, within places.Start ReadErrors, second_at places.After-write_opening-values, c.write_opening-values.auto.out, ap length (preface-read_errors c.args.t _ c.any_read-reads.ensures)),
    )

pub write_opening-updates-requires : goal.write_opening-updates-requires
write_opening-updates-requires c =
    let places = goal.at.write_opening-updates-requires c in
    let a = c.any_set-sets.ensures in
    let n = c.set_octets-k.ensures.0 in (
      λ b. omega (arith, n, set-small _ _ c.args.t c.requires.0.1 (sym a ∙ b)),
      few_updates _ _ c.args.t c.requires.0.1,
      omega (arith, within places.Start Updates, third_at places.After-write_second_count-read_errors (wrote₁ places.After-write_opening-values), c.write_second_count-read_errors.auto.out ∙ c.write_opening-values.auto.out, ap length (preface-updates c.args.t _ _ a n)),
    )

pub write_second_count-update_errors-requires : goal.write_second_count-update_errors-requires
write_second_count-update_errors-requires c =
    let places = goal.at.write_second_count-update_errors-requires c in (
      few_update_errors _ _ c.args.t c.requires.0.1,
      omega (arith, within places.Start UpdateErrors, fourth-at places.After-write_opening-updates (wrote₁ places.After-write_opening-values) (wrote₂ places.After-write_second_count-read_errors), c.write_opening-updates.auto.out ∙ (c.write_second_count-read_errors.auto.out ∙ c.write_opening-values.auto.out), ap length (preface-update_errors c.args.t _ c.any_set-sets.ensures)),
    )

pub write_longs-long_updates-requires : goal.write_longs-long_updates-requires
write_longs-long_updates-requires c =
    let places = goal.at.write_longs-long_updates-requires c in (
      long-small _ _ c.args.t c.requires.0.1,
      omega (arith, within places.Start LongUpdates, fifth-at places.After-write_second_count-update_errors (wrote₁ places.After-write_opening-values) (wrote₂ places.After-write_second_count-read_errors) (wrote₃ places.After-write_opening-updates), c.write_second_count-update_errors.auto.out ∙ (c.write_opening-updates.auto.out ∙ (c.write_second_count-read_errors.auto.out ∙ c.write_opening-values.auto.out)), ap length (preface-long_updates c.args.t)),
    )

pub shape_of-out : goal.shape_of-out
shape_of-out c = c.write_longs-long_updates.auto.out ∙ (c.write_second_count-update_errors.auto.out ∙ (c.write_opening-updates.auto.out ∙ (c.write_second_count-read_errors.auto.out ∙ c.write_opening-values.auto.out)))

pub returns : goal.returns
returns c =
    let places = goal.at.returns c in
    prefaces_filled c.args.t c.args.at c.args.out.now (wrote₁ places.After-write_opening-values) (wrote₂ places.After-write_second_count-read_errors) (wrote₃ places.After-write_opening-updates) (wrote₄ places.After-write_second_count-update_errors)
    (wrote_this _ _ (preface-long_updates c.args.t) c.write_longs-long_updates.ensures)
