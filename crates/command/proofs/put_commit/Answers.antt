-- `command::put_commit` meets its contract.
use Prim.Native.Nat.{ℕ}
use native.Mathlib.Omega.{arith}
use mathlib.Core.Path.{◌≡◌, refl, sym, ap, ◌∙◌}
use mathlib.Core.Bool.{Bool, true, false, ◌&&◌}
use mathlib.Core.List.{List}
use lib.ListN.{length}
use lib.Dec.{eqb}
use Rattle.meaning.specs.Octets.{same}
use Rattle.meaning.specs.Table.{row_at, admin_base_time, admin_control_list_length, admin_control_list, admin_cycle_time}
use Rattle.meaning.specs.Block.{joined_block, form_and_fit, sums, permits}
use Rattle.meaning.specs.Memory.{body, four_present}
use Rattle.meaning.specs.Step.{block, commits}
use Rattle.schedule.specs.Rules.{fit_together}
use Rattle.schedule.proofs.Blocks.{fit_is}
use Rattle.memory.proofs.Running.{fills}
use Rattle.command.proofs.Sets.{FourPermitted, four_permitted, FourLengths, four_lengths, commit_unset, commit_unfit, commit-sums, block_found, one_length}
use Rattle.command.proofs.put_commit.Goals as goal
use Rattle.command.proofs.put_commit.Goals.{After-room-ratio}

-- the four values, as they are found in the copy
module _ (c : After-room-ratio) where
  abbrev copy : List ℕ
  copy = c.args.m.now

  four : four_present copy ≡ true
  four = sym c.four_present.ensures ∙ c.if-not-four_present.false

  permitted : FourPermitted copy
  permitted = four_permitted copy c.requires four

  lengths : FourLengths copy
  lengths = four_lengths copy permitted

  base-is : c.room-base.result.now ≡ body copy admin_base_time
  base-is =
      let r = c.room-base.ensures in
      fills copy admin_base_time r.0 r.1 (lengths.base ∙ sym one_length.0)

  count-is : c.room-count.result.now ≡ body copy admin_control_list_length
  count-is =
      let r = c.room-count.ensures in
      fills copy admin_control_list_length r.0 r.1 (lengths.count ∙ sym one_length.1)

  list_is : c.body-list.result.now ≡ body copy admin_control_list
  list_is = c.body-list.ensures

  ratio-is : c.room-ratio.result.now ≡ body copy admin_cycle_time
  ratio-is =
      let r = c.room-ratio.ensures in
      fills copy admin_cycle_time r.0 r.1 (lengths.ratio ∙ sym one_length.2)

  found : joined_block c.room-base.result.now c.room-count.result.now c.body-list.result.now c.room-ratio.result.now ≡ block copy
  found = block_found copy base-is count-is list_is ratio-is

  -- whether they fit one another, and then whether the sums agree, by what is answered to either
  fit : (b : Bool) → b ≡ fit_together c.room-count.result.now c.body-list.result.now c.room-ratio.result.now → b ≡ form_and_fit (block copy)
  fit b e =
      let p = permitted in
      e
      ∙ fit_is _ _ _ _ (ap (permits (row_at admin_base_time)) base-is ∙ p.base) (ap (permits (row_at admin_control_list_length)) count-is ∙ p.count)
      (ap (permits (row_at admin_control_list)) list_is ∙ p.list) (ap (permits (row_at admin_cycle_time)) ratio-is ∙ p.ratio)
      ∙ ap form_and_fit found

  tested : (b : Bool) → true ≡ fit_together c.room-count.result.now c.body-list.result.now c.room-ratio.result.now
      → b ≡ (eqb (length c.args.v.now) 4 && same c.args.v.now (sums (joined_block c.room-base.result.now c.room-count.result.now c.body-list.result.now c.room-ratio.result.now)))
      → b ≡ commits copy c.args.v.now
  tested b h e =
      e
      ∙ ap (λ (k : List ℕ). eqb (length c.args.v.now) 4 && same c.args.v.now (sums k)) found
      ∙ sym (commit-sums copy c.args.v.now four (sym (fit true h)))

pub returns-then-not-four_present : goal.returns-then-not-four_present
returns-then-not-four_present c =
    let f : four_present c.args.m.now ≡ false = sym c.four_present.ensures ∙ c.if-not-four_present.true in
    rw (commit_unset c.args.m.now c.args.v.now f) (refl, refl)

pub body-list-requires : goal.body-list-requires
body-list-requires c = omega arith

pub fit_together-requires : goal.fit_together-requires
fit_together-requires c =
    let p = permitted c in (
      ap (permits (row_at admin_control_list_length)) (count-is c) ∙ p.count,
      ap (permits (row_at admin_control_list)) (list_is c) ∙ p.list,
      ap (permits (row_at admin_cycle_time)) (ratio-is c) ∙ p.ratio,
    )

pub returns-then-not-fit_together : goal.returns-then-not-fit_together
returns-then-not-fit_together c =
    rw (commit_unfit c.args.m.now c.args.v.now (sym (fit (goal.at.returns-then-not-fit_together c).After-room-ratio _ c.fit_together.ensures) ∙ c.if-not-fit_together.true)) (refl, refl)

pub returns-then-not-sums_agree : goal.returns-then-not-sums_agree
returns-then-not-sums_agree c =
    rw (sym (tested (goal.at.returns-then-not-sums_agree c).After-room-ratio _ (sym c.if-not-fit_together.false ∙ c.fit_together.ensures) c.sums_agree.ensures) ∙ c.if-not-sums_agree.true) (refl, refl)

pub store_block-requires : goal.store_block-requires
store_block-requires c =
    let l = lengths (goal.at.store_block-requires c).After-room-ratio in
    (l.base, l.count, l.ratio)

pub returns : goal.returns
returns c =
    rw (sym (tested (goal.at.returns c).After-room-ratio _ (sym c.if-not-fit_together.false ∙ c.fit_together.ensures) c.sums_agree.ensures) ∙ c.if-not-sums_agree.false) (refl, c.store_block.ensures)
