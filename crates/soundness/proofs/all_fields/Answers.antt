-- `soundness::all_fields` meets its contract.
use Prim.Native.Nat.{ℕ}
use mathlib.Core.Path.{◌≡◌, sym, ◌∙◌}
use mathlib.Core.Bool.{◌&&◌}
use mathlib.Core.List.{List}
use Rattle.meaning.specs.Octets.{below}
use Rattle.soundness.specs.Fields.{fields_at, all_fields}
use Rattle.soundness.proofs.Entries.{below_denied, first_field, next_field}
use Rattle.soundness.proofs.all_fields.Goals as goal
use Rattle.soundness.proofs.all_fields.Goals.{After-fields_at-10}

-- the first ten entries
module _ (c : After-fields_at-10) where
  abbrev m : List ℕ
  m = c.args.m.now

  half_is : (((((((((c.fields_at.result && c.fields_at-2.result) && c.fields_at-3.result) && c.fields_at-4.result) && c.fields_at-5.result) && c.fields_at-6.result) && c.fields_at-7.result) && c.fields_at-8.result) && c.fields_at-9.result) && c.fields_at-10.result) ≡ below 10 (fields_at m)
  half_is =
      let a1 = first_field m c.fields_at.ensures in
      let a2 = next_field m 1 a1 c.fields_at-2.ensures in
      let a3 = next_field m 2 a2 c.fields_at-3.ensures in
      let a4 = next_field m 3 a3 c.fields_at-4.ensures in
      let a5 = next_field m 4 a4 c.fields_at-5.ensures in
      let a6 = next_field m 5 a5 c.fields_at-6.ensures in
      let a7 = next_field m 6 a6 c.fields_at-7.ensures in
      let a8 = next_field m 7 a7 c.fields_at-8.ensures in
      let a9 = next_field m 8 a8 c.fields_at-9.ensures in
      next_field m 9 a9 c.fields_at-10.ensures

pub returns-then-not-half : goal.returns-then-not-half
unfolding all_fields
returns-then-not-half c =
    let places = goal.at.returns-then-not-half c in
    sym (below_denied (fields_at (m places.After-fields_at-10)) 10 (sym (half_is places.After-fields_at-10) ∙ c.if-not-half.true) 9)

pub returns : goal.returns
unfolding all_fields
returns c =
    let places = goal.at.returns c in
    let a10 = sym (c.if-not-half.false) ∙ half_is places.After-fields_at-10 in
    let a11 = next_field (m places.After-fields_at-10) 10 a10 c.fields_at-11.ensures in
    let a12 = next_field (m places.After-fields_at-10) 11 a11 c.fields_at-12.ensures in
    let a13 = next_field (m places.After-fields_at-10) 12 a12 c.fields_at-13.ensures in
    let a14 = next_field (m places.After-fields_at-10) 13 a13 c.fields_at-14.ensures in
    let a15 = next_field (m places.After-fields_at-10) 14 a14 c.fields_at-15.ensures in
    let a16 = next_field (m places.After-fields_at-10) 15 a15 c.fields_at-16.ensures in
    let a17 = next_field (m places.After-fields_at-10) 16 a16 c.fields_at-17.ensures in
    let a18 = next_field (m places.After-fields_at-10) 17 a17 c.fields_at-18.ensures in
    next_field (m places.After-fields_at-10) 18 a18 c.fields_at-19.ensures
