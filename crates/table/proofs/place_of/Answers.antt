-- `table::place_of` meets its contract.
use mathlib.Core.Path.{sym, ap}
use Rattle.meaning.specs.Table.{rows, place_in, place}
use Rattle.std.proofs.Common.{rules, tests}
use Rattle.table.proofs.place_of.Goals as goal

pub returns-in-1 : goal.returns-in-1
unfolding place place_in rows
returns-in-1 c = sym (ap place c.in-1.is)

pub returns-in-3 : goal.returns-in-3
unfolding place place_in rows
returns-in-3 c = sym (ap place c.in-3.is)

pub returns-in-4 : goal.returns-in-4
unfolding place place_in rows
returns-in-4 c = sym (ap place c.in-4.is)

pub returns-in-5 : goal.returns-in-5
unfolding place place_in rows
returns-in-5 c = sym (ap place c.in-5.is)

pub returns-in-6 : goal.returns-in-6
unfolding place place_in rows
returns-in-6 c = sym (ap place c.in-6.is)

pub returns-in-7 : goal.returns-in-7
unfolding place place_in rows
returns-in-7 c = sym (ap place c.in-7.is)

pub returns-in-8 : goal.returns-in-8
unfolding place place_in rows
returns-in-8 c = sym (ap place c.in-8.is)

pub returns-in-11 : goal.returns-in-11
unfolding place place_in rows
returns-in-11 c = sym (ap place c.in-11.is)

pub returns-in-64 : goal.returns-in-64
unfolding place place_in rows
returns-in-64 c = sym (ap place c.in-64.is)

pub returns-in-65 : goal.returns-in-65
unfolding place place_in rows
returns-in-65 c = sym (ap place c.in-65.is)

pub returns-in-66 : goal.returns-in-66
unfolding place place_in rows
returns-in-66 c = sym (ap place c.in-66.is)

pub returns-in-96 : goal.returns-in-96
unfolding place place_in rows
returns-in-96 c = sym (ap place c.in-96.is)

pub returns-in-97 : goal.returns-in-97
unfolding place place_in rows
returns-in-97 c = sym (ap place c.in-97.is)

pub returns-in-160 : goal.returns-in-160
unfolding place place_in rows
returns-in-160 c = sym (ap place c.in-160.is)

pub returns-in-161 : goal.returns-in-161
unfolding place place_in rows
returns-in-161 c = sym (ap place c.in-161.is)

pub returns-in-162 : goal.returns-in-162
unfolding place place_in rows
returns-in-162 c = sym (ap place c.in-162.is)

pub returns-in-163 : goal.returns-in-163
unfolding place place_in rows
returns-in-163 c = sym (ap place c.in-163.is)

pub returns-in-164 : goal.returns-in-164
unfolding place place_in rows
returns-in-164 c = sym (ap place c.in-164.is)

pub returns-in-32769 : goal.returns-in-32769
unfolding place place_in rows
returns-in-32769 c = sym (ap place c.in-32769.is)

pub returns-in_default : goal.returns-in_default
unfolding place place_in rows
returns-in_default c = search (tests, rules)
