-- Which gates are open at an instant (RULES 22), over the running block. Instants are counted from its base time, whose own value is not asked.
use Rattle.std.specs.Prelude.{ℕ, zero, suc, ◌+◌, ◌-◌, ◌/◌, ◌%◌, cond, List, length, drop, ltb, ℤ, pos, negsuc}
use Rattle.meaning.specs.Octets.{octet}
use Rattle.meaning.specs.Checks.{Checks, passed, check, first_failed, when_passed}
use Rattle.meaning.specs.Table.{commit}
use Rattle.meaning.specs.Block.{interval, cycle, list_of, ratio_of}
use Rattle.meaning.specs.Memory.{present, body}
use Rattle.meaning.specs.Profile.{sound_in}

-- What is answered (RULES 22.3 to 22.5): the number that refuses; that the schedule has not started; an entry of the list, told by its gate
-- states, its number and the nanoseconds to the next change.
pub data Gates : Type 0 where
  refused : ℕ → Gates
  not_started : Gates
  opens : ℕ → ℕ → ℕ → Gates

-- the gate states of the entry that a list begins with (RULES 4.24)
unfoldable pub states : List ℕ → ℕ
states v = octet v 2

-- The entry at a time in a cycle of c nanoseconds (RULES 22.7 to 22.9). The list v begins with entry k, whose interval begins at `from`, and has
-- n entries more.
unfoldable pub entry_at : ℕ → List ℕ → ℕ → ℕ → ℕ → ℕ → Gates
entry_at zero v k from time c = opens (states v) k (c - time)
entry_at (suc n) v k from time c =
    let end = from + interval v in
    cond (ltb time end) (opens (states v) k (end - time)) (entry_at n (drop 7 v) (k + 1) end time c)

-- what a block answers (RULES 22.5, 22.6); it has one entry at least
unfoldable pub gates_of : List ℕ → ℤ → Gates
gates_of b (negsuc i) = not_started
gates_of b (pos i) =
    let c = cycle (ratio_of b) in
    entry_at (length (list_of b) / 7 - 1) (list_of b) 0 0 (i % c) c

-- in the order of RULES 22.3
unfoldable pub gates_checks : ℕ → List ℕ → Checks
gates_checks p m = check 1 (sound_in p m) (check 15 (present m commit) passed)

unfoldable pub gates : ℕ → List ℕ → ℤ → Gates
gates p m instant = when_passed (first_failed (gates_checks p m)) (gates_of (body m commit) instant) refused

-- the number of an answer: 0 unless it is refused
unfoldable pub gates_number : Gates → ℕ
gates_number (refused n) = n
gates_number not_started = 0
gates_number (opens s k d) = 0
