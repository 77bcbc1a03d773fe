-- The 19 parameters in table order (RULES 3.10): name, least and greatest length, who sets it, its value rule (RULES 4.3 to 4.21).
use Rattle.std.specs.Prelude.{ℕ, suc, ◌+◌, Bool, true, false, cond, List, [], ◌∷◌, get_or, take, eqb}

-- who sets a parameter (RULES 4.2)
pub data Owner : Type 0 where
  controller port nobody : Owner

-- free: none. within a b: the octets spell a number from a to b. time: seconds and nanoseconds. entries: a control list.
-- ratio: numerator and denominator. running: a block with form and fit.
pub data Rule : Type 0 where
  free : Rule
  within : ℕ → ℕ → Rule
  time : Rule
  entries : Rule
  ratio : Rule
  running : Rule

pub record Row : Type 0 where
  pub name : ℕ
  pub least : ℕ
  pub most : ℕ
  pub owner : Owner
  pub rule : Rule

abbrev pub row : ℕ → ℕ → ℕ → Owner → Rule → Row
row n a b o r = record { name = n; least = a; most = b; owner = o; rule = r }

-- 8001 has two lengths: its entry holds the running block, 29 to 470 octets; what is set and read is 4 octets (Step)
unfoldable pub rows : List Row
rows =
    row 0x0001 8 8 port free
    ∷ row 0x0003 1 1 controller (within 0 1)
    ∷ row 0x0004 10 10 controller time
    ∷ row 0x0005 4 4 controller (within 0 64)
    ∷ row 0x0006 0 448 controller entries
    ∷ row 0x0007 8 8 controller ratio
    ∷ row 0x0008 4 4 port free
    ∷ row 0x000B 4 4 nobody (within 64 64)
    ∷ row 0x0040 1 1 controller (within 1 4)
    ∷ row 0x0041 1 1 controller (within 1 7)
    ∷ row 0x0042 1 255 controller free
    ∷ row 0x0060 1 1 controller (within 1 7)
    ∷ row 0x0061 1 255 controller free
    ∷ row 0x00A0 1 1 port (within 1 7)
    ∷ row 0x00A1 1 255 port free
    ∷ row 0x00A2 1 1 port (within 1 7)
    ∷ row 0x00A3 1 255 port free
    ∷ row 0x00A4 2 2 port free
    ∷ row 0x8001 29 470 controller running
    ∷ []

-- how many there are
abbrev pub entry_count : ℕ
entry_count = 19

-- the places that rules name
abbrev pub gate_enabled : ℕ
gate_enabled = 1

abbrev pub admin_base_time : ℕ
admin_base_time = 2

abbrev pub admin_control_list_length : ℕ
admin_control_list_length = 3

abbrev pub admin_control_list : ℕ
admin_control_list = 4

abbrev pub admin_cycle_time : ℕ
admin_cycle_time = 5

abbrev pub supported_list_max : ℕ
supported_list_max = 7

abbrev pub commit : ℕ
commit = 18

-- the row at a place; past the table's end one that nobody sets
unfoldable pub row_at : ℕ → Row
row_at k = get_or rows k (row 0 0 0 nobody free)

-- the place of a name in the table, 19 where it has none
unfoldable pub place_in : List Row → ℕ → ℕ
place_in [] n = 0
place_in (r ∷ rs) n = cond (eqb r.name n) 0 (suc (place_in rs n))

unfoldable pub place : ℕ → ℕ
place n = place_in rows n

unfoldable pub by_controller : Owner → Bool
by_controller controller = true
by_controller port = false
by_controller nobody = false

unfoldable pub by_port : Owner → Bool
by_port controller = false
by_port port = true
by_port nobody = false

-- ---- where things stand in the memory of 2,100 octets

abbrev pub memory_length : ℕ
memory_length = 2100

-- the timer's two octets come after the 19 cells, the bodies after them
abbrev pub timer_at : ℕ
timer_at = 114

abbrev pub bodies_at : ℕ
bodies_at = 116

-- the octets that the rooms of some rows take, side by side (RULES 3.9)
unfoldable pub rooms : List Row → ℕ
rooms [] = 0
rooms (r ∷ rs) = r.most + rooms rs

-- where the room at a place starts: after the rooms before it
unfoldable pub room_at : ℕ → ℕ
room_at k = bodies_at + rooms (take k rows)
