-- The table and the memory, octet by octet: who sets each name, how long values and all names are, where each room starts, the bits of the flags, fresh memory
-- and that making fresh gives it.
use Prim.Native.Nat.{ℕ, ◌+◌, ◌*◌, ◌/◌, ◌%◌}
use native.Mathlib.Omega.{arith}
use mathlib.Core.Path.{◌≡◌, refl, ap, ◌∙◌}
use mathlib.Core.Bool.{Bool, true, false, cond}
use mathlib.Core.List.{List, [], ◌∷◌, ◌++◌, map}
use lib.Dec.{eqb}
use lib.ListN.{length}
use borrow.Author.Tests.{eq-eqb}
use Rattle.meaning.specs.Octets.{octet, zeros, flat, be16}
use Rattle.meaning.specs.Checks.{passed, check}
use Rattle.meaning.specs.Table.{Row, controller, port, nobody, rows, place, place_in, by_controller, by_port, rooms, room_at}
use Rattle.meaning.specs.Memory.{cell, is_present, is_subscribed, is_pending, is_in_flight, present, subscribed, pending, in_flight, fresh}
use Rattle.meaning.specs.Profile.{is_release16, lists, listed, names_length}
use Rattle.meaning.specs.Reply.{all_names}
use Rattle.meaning.specs.Calls.{number_only, make_fresh}
use Rattle.meaning.proofs.All.{all}
use Rattle.meaning.proofs.Lists.{part-octet}
use Rattle.meaning.proofs.Tests.{all_passing}
use Rattle.meaning.proofs.Checked.{call-done}

-- ---- who sets each name, in table order

pub setters : map (λ (r : Row). r.owner) rows
    ≡ port ∷ controller ∷ controller ∷ controller ∷ controller ∷ controller ∷ port ∷ nobody ∷ controller ∷ controller ∷ controller ∷ controller ∷ controller ∷ port ∷ port ∷ port ∷ port ∷ port ∷ controller ∷ []
unfolding rows
setters = refl

-- so a controller sets these (RULES 11.7), and the port those (RULES 13.1)
pub set_by : (map (λ (r : Row). by_controller r.owner) rows
    ≡ false ∷ true ∷ true ∷ true ∷ true ∷ true ∷ false ∷ false ∷ true ∷ true ∷ true ∷ true ∷ true ∷ false ∷ false ∷ false ∷ false ∷ false ∷ true ∷ [])
    × (map (λ (r : Row). by_port r.owner) rows
    ≡ true ∷ false ∷ false ∷ false ∷ false ∷ false ∷ true ∷ false ∷ false ∷ false ∷ false ∷ false ∷ false ∷ true ∷ true ∷ true ∷ true ∷ true ∷ false ∷ [])
unfolding rows by_controller by_port
set_by = (refl, refl)

-- least and greatest lengths (RULES 4.3 to 4.21)
pub row_lengths : (map (λ (r : Row). r.least) rows ≡ 8 ∷ 1 ∷ 10 ∷ 4 ∷ 0 ∷ 8 ∷ 4 ∷ 4 ∷ 1 ∷ 1 ∷ 1 ∷ 1 ∷ 1 ∷ 1 ∷ 1 ∷ 1 ∷ 1 ∷ 2 ∷ 29 ∷ [])
    × (map (λ (r : Row). r.most) rows ≡ 8 ∷ 1 ∷ 10 ∷ 4 ∷ 448 ∷ 8 ∷ 4 ∷ 4 ∷ 1 ∷ 1 ∷ 255 ∷ 1 ∷ 255 ∷ 1 ∷ 255 ∷ 1 ∷ 255 ∷ 2 ∷ 470 ∷ [])
unfolding rows
row_lengths = (refl, refl)

-- the names that are listed, two octets each: all 19, in Release 16 those without 000B (RULES 12.4, 24.3)
abbrev pub first_names : List ℕ
first_names = 0 ∷ 0x01 ∷ 0 ∷ 0x03 ∷ 0 ∷ 0x04 ∷ 0 ∷ 0x05 ∷ 0 ∷ 0x06 ∷ 0 ∷ 0x07 ∷ 0 ∷ 0x08 ∷ []

abbrev pub last_names : List ℕ
last_names = 0 ∷ 0x40 ∷ 0 ∷ 0x41 ∷ 0 ∷ 0x42 ∷ 0 ∷ 0x60 ∷ 0 ∷ 0x61 ∷ 0 ∷ 0xA0 ∷ 0 ∷ 0xA1 ∷ 0 ∷ 0xA2 ∷ 0 ∷ 0xA3 ∷ 0 ∷ 0xA4 ∷ 0x80 ∷ 0x01 ∷ []

pub names_spelt : (p : ℕ) → all_names p ≡ first_names ++ (cond (is_release16 p) [] (0 ∷ 0x0B ∷ []) ++ last_names)
unfolding all_names listed lists place place_in rows flat be16
names_spelt p = go (is_release16 p) refl
  where
    go : (b : Bool) → is_release16 p ≡ b → all_names p ≡ first_names ++ (cond b [] (0 ∷ 0x0B ∷ []) ++ last_names)
    go true e = rw e
    go false e = rw e

pub names-length : (p : ℕ) → length (all_names p) ≡ names_length p
unfolding names_length
names-length p = rw (names_spelt p) (go (is_release16 p))
  where
    go : (b : Bool) → length (first_names ++ (cond b [] (0 ∷ 0x0B ∷ []) ++ last_names)) ≡ cond b 36 38
    go true = refl
    go false = refl

-- where the room of each name starts (RULES 3.10)
pub rooms_spelt : map room_at (0 ∷ 1 ∷ 2 ∷ 3 ∷ 4 ∷ 5 ∷ 6 ∷ 7 ∷ 8 ∷ 9 ∷ 10 ∷ 11 ∷ 12 ∷ 13 ∷ 14 ∷ 15 ∷ 16 ∷ 17 ∷ 18 ∷ [])
    ≡ 116 ∷ 124 ∷ 125 ∷ 135 ∷ 139 ∷ 587 ∷ 595 ∷ 599 ∷ 603 ∷ 604 ∷ 605 ∷ 860 ∷ 861 ∷ 1116 ∷ 1117 ∷ 1372 ∷ 1373 ∷ 1628 ∷ 1630 ∷ []
unfolding room_at rooms rows
rooms_spelt = refl

-- ---- the flags' bits

pub flag_bits : (m : List ℕ) (k : ℕ)
    → (present m k ≡ eqb (octet m (6 * k + 2) % 2) 1) × (subscribed m k ≡ eqb (octet m (6 * k + 2) / 2 % 2) 1) × (pending m k ≡ eqb (octet m (6 * k + 2) / 4 % 2) 1)
    × (in_flight m k ≡ eqb (octet m (6 * k + 2) / 8 % 2) 1)
unfolding present subscribed pending in_flight is_present is_subscribed is_pending is_in_flight cell
flag_bits m k =
    let e = part-octet m (6 * k) 6 2 (omega arith) in
    (rw e, rw e, rw e, rw e)

-- ---- fresh memory, octet by octet

unfoldable pub contents : List ℕ
contents =
    0x00 ∷ 0x01 ∷ 0 ∷ 0 ∷ 0 ∷ 0
    ∷ 0x00 ∷ 0x03 ∷ 1 ∷ 0 ∷ 0 ∷ 1
    ∷ 0x00 ∷ 0x04 ∷ 0 ∷ 0 ∷ 0 ∷ 0
    ∷ 0x00 ∷ 0x05 ∷ 0 ∷ 0 ∷ 0 ∷ 0
    ∷ 0x00 ∷ 0x06 ∷ 0 ∷ 0 ∷ 0 ∷ 0
    ∷ 0x00 ∷ 0x07 ∷ 0 ∷ 0 ∷ 0 ∷ 0
    ∷ 0x00 ∷ 0x08 ∷ 0 ∷ 0 ∷ 0 ∷ 0
    ∷ 0x00 ∷ 0x0B ∷ 1 ∷ 0 ∷ 0 ∷ 4
    ∷ 0x00 ∷ 0x40 ∷ 0 ∷ 0 ∷ 0 ∷ 0
    ∷ 0x00 ∷ 0x41 ∷ 0 ∷ 0 ∷ 0 ∷ 0
    ∷ 0x00 ∷ 0x42 ∷ 0 ∷ 0 ∷ 0 ∷ 0
    ∷ 0x00 ∷ 0x60 ∷ 0 ∷ 0 ∷ 0 ∷ 0
    ∷ 0x00 ∷ 0x61 ∷ 0 ∷ 0 ∷ 0 ∷ 0
    ∷ 0x00 ∷ 0xA0 ∷ 0 ∷ 0 ∷ 0 ∷ 0
    ∷ 0x00 ∷ 0xA1 ∷ 0 ∷ 0 ∷ 0 ∷ 0
    ∷ 0x00 ∷ 0xA2 ∷ 0 ∷ 0 ∷ 0 ∷ 0
    ∷ 0x00 ∷ 0xA3 ∷ 0 ∷ 0 ∷ 0 ∷ 0
    ∷ 0x00 ∷ 0xA4 ∷ 0 ∷ 0 ∷ 0 ∷ 0
    ∷ 0x80 ∷ 0x01 ∷ 0 ∷ 0 ∷ 0 ∷ 0
    ∷ []

abbrev pub fresh_octets : List ℕ
fresh_octets = contents ++ (0 ∷ 0 ∷ zeros 8 ++ (0 ∷ zeros 474 ++ (0 ∷ 0 ∷ 0 ∷ 0x40 ∷ zeros 1497)))

pub fresh_spelt : fresh ≡ fresh_octets
unfolding all contents
fresh_spelt = refl

-- from any memory of this length, sound or not (RULES 6.4)
pub make_fresh_gives : (m : List ℕ) → length m ≡ 2100 → make_fresh m ≡ number_only 0 fresh_octets []
unfolding make_fresh
make_fresh_gives m h =
    call-done _ (number_only 0 fresh []) m [] (all_passing (check 1 (eqb (length m) 2100) passed) (eq-eqb _ _ h, tt))
    ∙ ap (λ (f : List ℕ). number_only 0 f []) fresh_spelt
