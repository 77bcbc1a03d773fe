-- `table::row_at` meets its contract.
use native.Mathlib.Omega.{arith}
use mathlib.Core.Path.{refl}
use Rattle.meaning.specs.Table.{rows, row_at, rooms, room_at}
use Rattle.schedule.specs.Rules.{rule_of}
use Rattle.table.specs.Rows.{owner_of}
use Rattle.table.proofs.Rows.{arm, no_arm}
use Rattle.table.proofs.row_at.Goals as goal

pub returns-in-0 : goal.returns-in-0
unfolding row_at rows room_at rooms owner_of rule_of
returns-in-0 c = arm 0 _ _ _ c.in-0.is c.as_row.ensures.0 c.as_row.ensures.1 refl refl (omega arith)

pub returns-in-1 : goal.returns-in-1
unfolding row_at rows room_at rooms owner_of rule_of
returns-in-1 c = arm 1 _ _ _ c.in-1.is c.as_row-in-1.ensures.0 c.as_row-in-1.ensures.1 refl refl (omega arith)

pub returns-in-2 : goal.returns-in-2
unfolding row_at rows room_at rooms owner_of rule_of
returns-in-2 c = arm 2 _ _ _ c.in-2.is c.as_row-in-2.ensures.0 c.as_row-in-2.ensures.1 refl refl (omega arith)

pub returns-in-3 : goal.returns-in-3
unfolding row_at rows room_at rooms owner_of rule_of
returns-in-3 c = arm 3 _ _ _ c.in-3.is c.as_row-in-3.ensures.0 c.as_row-in-3.ensures.1 refl refl (omega arith)

pub returns-in-4 : goal.returns-in-4
unfolding row_at rows room_at rooms owner_of rule_of
returns-in-4 c = arm 4 _ _ _ c.in-4.is c.as_row-in-4.ensures.0 c.as_row-in-4.ensures.1 refl refl (omega arith)

pub returns-in-5 : goal.returns-in-5
unfolding row_at rows room_at rooms owner_of rule_of
returns-in-5 c = arm 5 _ _ _ c.in-5.is c.as_row-in-5.ensures.0 c.as_row-in-5.ensures.1 refl refl (omega arith)

pub returns-in-6 : goal.returns-in-6
unfolding row_at rows room_at rooms owner_of rule_of
returns-in-6 c = arm 6 _ _ _ c.in-6.is c.as_row-in-6.ensures.0 c.as_row-in-6.ensures.1 refl refl (omega arith)

pub returns-in-7 : goal.returns-in-7
unfolding row_at rows room_at rooms owner_of rule_of
returns-in-7 c = arm 7 _ _ _ c.in-7.is c.as_row-in-7.ensures.0 c.as_row-in-7.ensures.1 refl refl (omega arith)

pub returns-in-8 : goal.returns-in-8
unfolding row_at rows room_at rooms owner_of rule_of
returns-in-8 c = arm 8 _ _ _ c.in-8.is c.as_row-in-8.ensures.0 c.as_row-in-8.ensures.1 refl refl (omega arith)

pub returns-in-9 : goal.returns-in-9
unfolding row_at rows room_at rooms owner_of rule_of
returns-in-9 c = arm 9 _ _ _ c.in-9.is c.as_row-in-9.ensures.0 c.as_row-in-9.ensures.1 refl refl (omega arith)

pub returns-in-10 : goal.returns-in-10
unfolding row_at rows room_at rooms owner_of rule_of
returns-in-10 c = arm 10 _ _ _ c.in-10.is c.as_row-in-10.ensures.0 c.as_row-in-10.ensures.1 refl refl (omega arith)

pub returns-in-11 : goal.returns-in-11
unfolding row_at rows room_at rooms owner_of rule_of
returns-in-11 c = arm 11 _ _ _ c.in-11.is c.as_row-in-11.ensures.0 c.as_row-in-11.ensures.1 refl refl (omega arith)

pub returns-in-12 : goal.returns-in-12
unfolding row_at rows room_at rooms owner_of rule_of
returns-in-12 c = arm 12 _ _ _ c.in-12.is c.as_row-in-12.ensures.0 c.as_row-in-12.ensures.1 refl refl (omega arith)

pub returns-in-13 : goal.returns-in-13
unfolding row_at rows room_at rooms owner_of rule_of
returns-in-13 c = arm 13 _ _ _ c.in-13.is c.as_row-in-13.ensures.0 c.as_row-in-13.ensures.1 refl refl (omega arith)

pub returns-in-14 : goal.returns-in-14
unfolding row_at rows room_at rooms owner_of rule_of
returns-in-14 c = arm 14 _ _ _ c.in-14.is c.as_row-in-14.ensures.0 c.as_row-in-14.ensures.1 refl refl (omega arith)

pub returns-in-15 : goal.returns-in-15
unfolding row_at rows room_at rooms owner_of rule_of
returns-in-15 c = arm 15 _ _ _ c.in-15.is c.as_row-in-15.ensures.0 c.as_row-in-15.ensures.1 refl refl (omega arith)

pub returns-in-16 : goal.returns-in-16
unfolding row_at rows room_at rooms owner_of rule_of
returns-in-16 c = arm 16 _ _ _ c.in-16.is c.as_row-in-16.ensures.0 c.as_row-in-16.ensures.1 refl refl (omega arith)

pub returns-in-17 : goal.returns-in-17
unfolding row_at rows room_at rooms owner_of rule_of
returns-in-17 c = arm 17 _ _ _ c.in-17.is c.as_row-in-17.ensures.0 c.as_row-in-17.ensures.1 refl refl (omega arith)

pub returns-in-18 : goal.returns-in-18
unfolding row_at rows room_at rooms owner_of rule_of
returns-in-18 c = arm 18 _ _ _ c.in-18.is c.as_row-in-18.ensures.0 c.as_row-in-18.ensures.1 refl refl (omega arith)

pub returns-in_default : goal.returns-in_default
unfolding owner_of rule_of
returns-in_default c =
    let k = c.args.k in
    no_arm k _ (omega arith) c.as_row-in_default.ensures.0 c.as_row-in_default.ensures.1
