-- Port memory: 19 cells of 6 octets, the two octets of the timer, 19 rooms; what sound means, fresh memory, an entry replaced.
use Rattle.std.specs.Prelude.{ℕ, zero, suc, ◌+◌, ◌-◌, ◌*◌, ◌/◌, ◌%◌, Bool, true, false, ◌&&◌, cond, List, [], ◌∷◌, ◌++◌, length, take, drop, eqb, leb, ltb}
use Rattle.meaning.specs.Octets.{octet, at16, be16, part, splice, zeros, blank, every, below, implies}
use Rattle.meaning.specs.Table.{Row, row_at, room_at, by_port, entry_count, memory_length, timer_at, gate_enabled, admin_base_time, admin_control_list_length, admin_control_list, admin_cycle_time, supported_list_max, commit}
use Rattle.meaning.specs.Wire.{expiries_most}
use Rattle.meaning.specs.Block.{permits}

-- ---- a cell and its fields (RULES 3.4)

abbrev pub cell_at : ℕ → ℕ
cell_at k = 6 * k

abbrev pub flags_at : ℕ → ℕ
flags_at k = cell_at k + 2

unfoldable pub cell : List ℕ → ℕ → List ℕ
cell m k = part m (cell_at k) 6

unfoldable pub room : List ℕ → ℕ → List ℕ
room m k = part m (room_at k) (row_at k).most

-- the four flags (RULES 3.5); there is no other bit
unfoldable pub is_present : List ℕ → Bool
is_present c = eqb (octet c 2 % 2) 1

unfoldable pub is_subscribed : List ℕ → Bool
is_subscribed c = eqb (octet c 2 / 2 % 2) 1

unfoldable pub is_pending : List ℕ → Bool
is_pending c = eqb (octet c 2 / 4 % 2) 1

unfoldable pub is_in_flight : List ℕ → Bool
is_in_flight c = eqb (octet c 2 / 8 % 2) 1

abbrev pub flag_limit : ℕ
flag_limit = 16

unfoldable pub size : List ℕ → ℕ
size c = at16 c 4

-- ---- what memory says of the parameter at place k

unfoldable pub present : List ℕ → ℕ → Bool
present m k = is_present (cell m k)

unfoldable pub subscribed : List ℕ → ℕ → Bool
subscribed m k = is_subscribed (cell m k)

unfoldable pub pending : List ℕ → ℕ → Bool
pending m k = is_pending (cell m k)

unfoldable pub in_flight : List ℕ → ℕ → Bool
in_flight m k = is_in_flight (cell m k)

unfoldable pub body : List ℕ → ℕ → List ℕ
body m k = take (size (cell m k)) (room m k)

-- ---- the timer: its state, then the expiries (RULES 3.6, 3.7)

unfoldable pub timer : List ℕ → List ℕ
timer m = part m timer_at 2

unfoldable pub waiting : List ℕ → Bool
waiting m = eqb (octet (timer m) 0) 1

unfoldable pub expiries : List ℕ → ℕ
expiries m = octet (timer m) 1

-- ---- changes

unfoldable pub bit : Bool → ℕ → ℕ
bit true n = n
bit false n = 0

-- the flags present, subscribed, pending and in flight
unfoldable pub flags : Bool → Bool → Bool → Bool → ℕ
flags p s q i = bit p 1 + bit s 2 + bit q 4 + bit i 8

unfoldable pub cell_of : ℕ → ℕ → ℕ → List ℕ
cell_of k f n = be16 (row_at k).name ++ (f ∷ 0 ∷ be16 n)

-- a value, and zeros to the end of its room
unfoldable pub room_of : ℕ → List ℕ → List ℕ
room_of k v = v ++ zeros ((row_at k).most - length v)

unfoldable pub put_cell : List ℕ → ℕ → ℕ → ℕ → List ℕ
put_cell m k f n = splice m (cell_at k) (cell_of k f n)

unfoldable pub put_room : List ℕ → ℕ → List ℕ → List ℕ
put_room m k v = splice m (room_at k) (room_of k v)

-- an entry replaced: its flags, its length, its value in its own room
unfoldable pub put : List ℕ → ℕ → ℕ → List ℕ → List ℕ
put m k f v = put_room (put_cell m k f (length v)) k v

-- a value made present, its marks as they were (RULES 11.10)
unfoldable pub store : List ℕ → ℕ → List ℕ → List ℕ
store m k v = put m k (flags true (subscribed m k) (pending m k) (in_flight m k)) v

-- other marks, presence and every other octet as it was
unfoldable pub set_marks : List ℕ → ℕ → Bool → Bool → Bool → List ℕ
set_marks m k s q i = splice m (flags_at k) (flags (present m k) s q i ∷ [])

unfoldable pub set_timer : List ℕ → ℕ → ℕ → List ℕ
set_timer m w n = splice m timer_at (w ∷ n ∷ [])

-- ---- sound memory (RULES 5)

-- the cell c and the room s are right for the row r, in memory that waits or does not (RULES 5.2 to 5.9, 5.11, 5.14, 5.17)
unfoldable pub entry_sound : Bool → Row → List ℕ → List ℕ → Bool
entry_sound w r c s =
    every
    (eqb (at16 c 0) r.name
    ∷ eqb (octet c 3) 0
    ∷ ltb (octet c 2) flag_limit
    ∷ implies (is_pending c) (is_subscribed c && by_port r.owner)
    ∷ implies (is_in_flight c) (is_subscribed c && (by_port r.owner && w))
    ∷ leb (size c) r.most
    ∷ cond (is_present c) (permits r (take (size c) s)) (eqb (size c) 0)
    ∷ blank (drop (size c) s)
    ∷ [])

unfoldable pub entries_sound : List ℕ → Bool
entries_sound m = below entry_count (λ k. entry_sound (waiting m) (row_at k) (cell m k) (room m k))

-- the four values of a block are there (RULES 5.12)
unfoldable pub four_present : List ℕ → Bool
four_present m =
    every
    (present m admin_base_time
    ∷ present m admin_control_list_length
    ∷ present m admin_control_list
    ∷ present m admin_cycle_time
    ∷ [])

-- waiting with 0 to 4 expiries, or idle with none (RULES 5.13)
unfoldable pub timer_sound : List ℕ → Bool
timer_sound c = cond (eqb (octet c 0) 1) (leb (octet c 1) expiries_most) (eqb (octet c 0) 0 && eqb (octet c 1) 0)

unfoldable pub sound : List ℕ → Bool
sound m =
    every
    (eqb (length m) memory_length
    ∷ entries_sound m
    ∷ present m gate_enabled
    ∷ present m supported_list_max
    ∷ implies (present m commit) (four_present m)
    ∷ timer_sound (timer m)
    ∷ [])

-- ---- fresh memory (RULES 6.1 to 6.3)

-- the first k entries named, and absent
unfoldable pub absent : ℕ → List ℕ → List ℕ
absent zero m = m
absent (suc k) m = put_cell (absent k m) k 0 0

unfoldable pub fresh : List ℕ
fresh =
    put
    (put (absent entry_count (zeros memory_length)) gate_enabled (flags true false false false) (0 ∷ []))
    supported_list_max (flags true false false false) (0 ∷ 0 ∷ 0 ∷ 64 ∷ [])
