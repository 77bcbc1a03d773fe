-- `memory::store_block` meets its contract.
use Prim.Native.Nat.{ℕ, ◌+◌, ◌≤◌}
use native.Mathlib.Omega.{arith}
use mathlib.Core.Path.{◌≡◌, ap, ◌∙◌}
use mathlib.Core.List.{List}
use lib.ListN.{length}
use borrow.Author.Rules.{rules}
use Rattle.meaning.specs.Octets.{part}
use Rattle.meaning.specs.Table.{memory_length, admin_base_time, admin_control_list_length, admin_control_list, admin_cycle_time, commit}
use Rattle.meaning.specs.Memory.{body, put_cell}
use Rattle.octets.specs.Writing.{Wrote}
use Rattle.memory.proofs.Running.{list-short, block-long, at_is, end_is, block-stored}
use Rattle.memory.proofs.store_block.Goals as goal

-- the four values' lengths, as they are asked
abbrev Four : List ℕ → Type 0
Four m =
    (length (body m admin_base_time) ≡ 10)
    × (length (body m admin_control_list_length) ≡ 4)
    × (length (body m admin_cycle_time) ≡ 8)

-- the block's cell, by the length of the list that was asked
named : (m l after : List ℕ) (f : ℕ) → l ≡ body m admin_control_list → after ≡ put_cell m commit f (14 + length l + 8)
    → after ≡ put_cell m commit f (14 + length (body m admin_control_list) + 8)
named m l after f e p = p ∙ ap (λ (v : List ℕ). put_cell m commit f (14 + length v + 8)) e

-- its first stretch
first : (m l cell : List ℕ) (at : ℕ) (after : List ℕ) → l ≡ body m admin_control_list → Wrote cell 1630 (part cell 125 (14 + length l)) at after
    → Wrote cell 1630 (part cell 125 (14 + length (body m admin_control_list))) at after
first m l cell at after e w = rw e at w

-- the end of its second stretch
ended : (m l cell mid after : List ℕ) (f at end : ℕ) (h : length m ≡ memory_length) (p : Four m) → l ≡ body m admin_control_list → cell ≡ put_cell m commit f (14 + length l + 8)
    → Wrote cell 1630 (part cell 125 (14 + length l)) at mid → Wrote mid at (part mid 587 8) end after → end ≤ 2100
ended m l cell mid after f at end h p e q v w =
    omega (
      arith,
      end_is m h p.0 p.1 p.2 _ (named m _ _ _ e q) (first m _ _ _ _ e v) w,
      block-long m h p.0 p.1 p.2,
      list-short m h p.0 p.1 p.2,
    )

pub put_cell-requires : goal.put_cell-requires
put_cell-requires c =
    let p = c.requires in
    (omega arith, omega (arith, ap length c.body-list.ensures, list-short c.args.m.now c.told-m p.0 p.1 p.2))

pub copy_within-at-requires : goal.copy_within-at-requires
copy_within-at-requires c =
    let p = c.requires in
    let h = ap length c.body-list.ensures in
    let l = list-short c.args.m.now c.told-m p.0 p.1 p.2 in
    (omega (arith, h, l), search rules)

pub copy_within-end-requires : goal.copy_within-end-requires
copy_within-end-requires c =
    let p = c.requires in
    let m = c.args.m.now in
    let e = c.body-list.ensures in
    let h = at_is m c.told-m p.0 p.1 p.2 _ (named m _ _ _ e c.put_cell.ensures) (first m _ _ _ _ e c.copy_within-at.ensures) in
    let l = list-short m c.told-m p.0 p.1 p.2 in
    (omega (arith, h), search rules)

pub slice_bounds-clear_from-count : goal.slice_bounds-clear_from-count
slice_bounds-clear_from-count c =
    let h = ended c.args.m.now _ _ _ _ _ _ _ c.told-m c.requires c.body-list.ensures c.put_cell.ensures c.copy_within-at.ensures c.copy_within-end.ensures in
    search rules

pub slice_bounds-clear_from-start : goal.slice_bounds-clear_from-start
slice_bounds-clear_from-start c =
    let h = ended c.args.m.now _ _ _ _ _ _ _ c.told-m c.requires c.body-list.ensures c.put_cell.ensures c.copy_within-at.ensures c.copy_within-end.ensures in
    search rules

pub returns : goal.returns
unfolding part
returns c =
    let p = c.requires in
    let m = c.args.m.now in
    let e = c.body-list.ensures in
    block-stored m c.told-m p.0 p.1 p.2 _ (named m _ _ _ e c.put_cell.ensures) (first m _ _ _ _ e c.copy_within-at.ensures) c.copy_within-end.ensures
    c.flags_with-f.ensures c.clear_from.ensures
