-- The test of sound memory in three parts: what the entries hold, that the octets past each length are zero, what is asked across entries.
use Rattle.std.specs.Prelude.{Option, Some, ℕ, ◌+◌, ◌-◌, Bool, ◌&&◌, cond, List, [], ◌∷◌, take, drop, eqb, leb, ltb}
use Rattle.std.specs.Bool.{then_some}
use Rattle.meaning.specs.Octets.{octet, at16, part, blank, every, below, implies}
use Rattle.meaning.specs.Table.{Row, row_at, room_at, by_port, entry_count, gate_enabled, supported_list_max, commit}
use Rattle.meaning.specs.Block.{permits}
use Rattle.meaning.specs.Memory.{cell, room, is_present, is_subscribed, is_pending, is_in_flight, size, flag_limit, present, timer, waiting, four_present, timer_sound}

-- name, zero octet, flags, marks, in memory that waits or does not
unfoldable pub cell_sound : Bool → Row → List ℕ → Bool
cell_sound w r c =
    every
    (eqb (at16 c 0) r.name
    ∷ eqb (octet c 3) 0
    ∷ ltb (octet c 2) flag_limit
    ∷ implies (is_pending c) (is_subscribed c && by_port r.owner)
    ∷ implies (is_in_flight c) (is_subscribed c && (by_port r.owner && w))
    ∷ [])

-- length and value besides
unfoldable pub fields_sound : Bool → Row → List ℕ → List ℕ → Bool
fields_sound w r c s =
    every (cell_sound w r c ∷ leb (size c) r.most ∷ cond (is_present c) (permits r (take (size c) s)) (eqb (size c) 0) ∷ [])

unfoldable pub fields_at : List ℕ → ℕ → Bool
fields_at m k = fields_sound (waiting m) (row_at k) (cell m k) (room m k)

unfoldable pub tail_at : List ℕ → ℕ → Bool
tail_at m k = blank (drop (size (cell m k)) (room m k))

-- the octets between the value before an entry, which ends at `end`, and its own: where it has none they go on, else the next ones start
-- behind it, if these are blank
unfoldable pub gap_at : List ℕ → ℕ → ℕ → Option ℕ
gap_at m k end =
    let n = size (cell m k) in
    cond (eqb n 0) (Some end) (then_some (blank (part m end (room_at k - end))) (room_at k + n))

unfoldable pub all_fields : List ℕ → Bool
all_fields m = below entry_count (fields_at m)

unfoldable pub all_tails : List ℕ → Bool
all_tails m = below entry_count (tail_at m)

-- what is asked across the entries: 0003 and 000B present, a running block only where the four are, the timer
unfoldable pub across_sound : List ℕ → Bool
across_sound m =
    every
    (present m gate_enabled
    ∷ present m supported_list_max
    ∷ implies (present m commit) (four_present m)
    ∷ timer_sound (timer m)
    ∷ [])
