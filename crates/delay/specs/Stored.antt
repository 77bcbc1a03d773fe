-- The delay that octets hold.
use Rattle.std.specs.Prelude.{ℕ, cond, List, length, eqb, Option, Some, None}
use Rattle.meaning.specs.Delay.{low_number}
use Rattle.delay.specs.declared.DelayUnits.{DelayUnits}

-- eight octets hold the units that they spell, the LOW octet first; any other count holds no delay
unfoldable pub stored_in : List ℕ → Option DelayUnits
stored_in s = cond (eqb (length s) 8) (Some (record { 0 = low_number s })) None
