-- The flags by their names in the code: whether a cell has one, and whether the entry at a place has it.
use Rattle.std.specs.Prelude.{ℕ, Bool, List}
use Rattle.meaning.specs.Memory.{is_present, is_subscribed, is_pending, is_in_flight, present, subscribed, pending, in_flight}
use Rattle.table.specs.declared.Flag.{Flag}
use Rattle.table.specs.declared.Flag.TheVariants.{Present, Subscribed, Pending, InFlight}

abbrev pub marked : Flag → List ℕ → Bool
marked Present c = is_present c
marked Subscribed c = is_subscribed c
marked Pending c = is_pending c
marked InFlight c = is_in_flight c

abbrev pub has : Flag → List ℕ → ℕ → Bool
has Present m k = present m k
has Subscribed m k = subscribed m k
has Pending m k = pending m k
has InFlight m k = in_flight m k
