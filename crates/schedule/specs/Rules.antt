-- The rules of the code's enum as those of the table, the lengths at which a rule is asked, and how values fit one another.
use Rattle.std.specs.Prelude.{ℕ, ◌/◌, Bool, true, ◌||◌, List, [], ◌∷◌, length, ◌==◌, nat_le}
use Rattle.meaning.specs.Octets.{every}
use Rattle.meaning.specs.Block.{as_number, entries_of, intervals, cycle}
use Rattle.meaning.specs.Table.{free, within, time, entries, ratio, running}
use Rattle.meaning.specs.Table as table
use Rattle.schedule.specs.declared.Rule.{Rule}
use Rattle.schedule.specs.declared.Rule.TheVariants.{Free, Within, Time, Entries, Ratio, Running}

unfoldable pub rule_of : Rule → table.Rule
rule_of Free = free
rule_of (Within a b) = within a b
rule_of Time = time
rule_of Entries = entries
rule_of Ratio = ratio
rule_of Running = running

-- a rule is asked of values of the lengths that its rows permit
unfoldable pub asked : table.Rule → ℕ → Bool
asked free n = true
asked (within a b) n = n == 1 || n == 4
asked time n = n == 10
asked entries n = nat_le n 448
asked ratio n = n == 8
asked running n = true

-- how a length, a list and a cycle fit one another that keep their rules (RULES 8.3 to 8.5): one entry or more, as many as the length
-- says, and their intervals within the cycle
unfoldable pub fit_together : List ℕ → List ℕ → List ℕ → Bool
fit_together count list ratio' =
    every
    (nat_le 1 (length list / 7)
    ∷ (as_number count == length list / 7)
    ∷ nat_le (intervals (entries_of list)) (cycle ratio')
    ∷ [])
