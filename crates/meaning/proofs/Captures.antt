-- Each number of the reader, and exactly when; a refused message hands out nothing; how causes read and how elements are sized. Then examples, one
-- statement over one list.
use Prim.Native.Nat.{ℕ, suc, ◌≤◌, ◌<◌}
use native.Mathlib.Omega.{arith}
use mathlib.Core.Path.{◌≡◌, refl, ap}
use mathlib.Core.Bool.{true, ◌||◌}
use mathlib.Core.Option.{Option, none, some}
use mathlib.Core.List.{List, [], ◌∷◌, ◌++◌, map, append-nil}
use lib.ListN.{length}
use borrow.Author.Tests.{le-leb, lt-leb, ne_eqb}
use Rattle.meaning.specs.Octets.{octet, at16, part, zeros}
use Rattle.meaning.specs.Block.{as_number_from, as_number}
use Rattle.meaning.specs.Checks.{first_failed, when_passed}
use Rattle.meaning.specs.Reply.{Held, Failed}
use Rattle.meaning.specs.Capture.{Capture, no_capture, merged, OneRecord, a_name, a_value, a_read_error, an_update, an_update_error, a_long_update, in_order, update_cause, read_cause, length_octets, is_reply, is_notification, contained, capture_checks, Captured, or_nothing, capture, then_read, sized, front_name, front_held, front_failed, several, behind_count, until_end_in, until_end, exactly, names_in, status_in, longs_in, result_in, is_read, keeping, elements_in, elements_of, of_element, of_elements, in_reply, in_notification}
use Rattle.meaning.proofs.Lists.{Octets}
use Rattle.meaning.proofs.Accepts.{Spelt, found_spelt}

abbrev pub refused_with : ℕ → Captured
refused_with n = record { number = n; records = no_capture }

-- ---- joined to nothing, each kind is what it was: none goes to another

pub merged_none : (c : Capture) → (merged c no_capture ≡ c) × (merged no_capture c ≡ c)
merged_none c = (simp append-nil, refl)

-- ---- numbers, in the order of RULES 20.4: five cases, of which each message is in one

pub capture_2 : capture [] ≡ refused_with 2
unfolding capture capture_checks first_failed when_passed
capture_2 = refl

module _ (s : List ℕ) (nonempty : 1 ≤ length s) where
  pub capture_3 : 4096 < length s → capture s ≡ refused_with 3
  unfolding capture capture_checks first_failed when_passed
  capture_3 h = rw (le-leb 1 (length s) nonempty, lt-leb (length s) 4096 h)

  module _ (short : length s ≤ 4096) where
    pub capture_13 : (octet s 0 ≡ 2 → ⊥) → (octet s 0 ≡ 3 → ⊥) → capture s ≡ refused_with 13
    unfolding capture capture_checks first_failed when_passed is_reply is_notification
    capture_13 a b = rw (le-leb 1 (length s) nonempty, le-leb (length s) 4096 short, ne_eqb (octet s 0) 2 a, ne_eqb (octet s 0) 3 b)

    module _ (type : (is_reply s || is_notification s) ≡ true) where
      not_there : contained s ≡ none → capture s ≡ refused_with 14
      unfolding capture capture_checks first_failed when_passed
      not_there e = rw (le-leb 1 (length s) nonempty, le-leb (length s) 4096 short, type, e)

      -- octets that spell no records: an element or a record is cut short, or octets are left over
      pub capture_14 : Octets s → ((r : Capture) → Spelt s r → ⊥) → capture s ≡ refused_with 14
      capture_14 o h = go (contained s) refl
        where
          go : (c : Option Capture) → contained s ≡ c → capture s ≡ refused_with 14
          go none e = not_there e
          go (some r) e = absurd (h r (found_spelt s o nonempty type r e))

-- whatever is refused hands out nothing
pub refused_nothing : (s : List ℕ) (n : ℕ) → (capture s).number ≡ suc n → (capture s).records ≡ no_capture
unfolding capture when_passed
refused_nothing s n e = ap (λ (k : ℕ). when_passed k (or_nothing (contained s)) (λ i. no_capture)) e

-- ---- causes and sizes

pub causes_kept : (map read_cause (0x01 ∷ 0x02 ∷ 0x03 ∷ 0x6F ∷ []) ≡ 0x01 ∷ 0x02 ∷ 0x03 ∷ 0x6F ∷ []) × (map update_cause (0x01 ∷ 0x02 ∷ 0x6F ∷ []) ≡ 0x01 ∷ 0x02 ∷ 0x6F ∷ [])
unfolding read_cause update_cause
causes_kept = (refl, refl)

pub update_other : (c : ℕ) → (c ≡ 0x01 → ⊥) → (c ≡ 0x02 → ⊥) → update_cause c ≡ 0x6F
unfolding update_cause
update_other c a b = rw (ne_eqb c 0x01 a, ne_eqb c 0x02 b)

pub read_other : (c : ℕ) → (c ≡ 0x01 → ⊥) → (c ≡ 0x02 → ⊥) → (c ≡ 0x03 → ⊥) → read_cause c ≡ 0x6F
unfolding read_cause
read_other c a b d = rw (ne_eqb c 0x03 d) (update_other c a b)

pub size_none : (id : ℕ) → 0x80 ≤ id → length_octets id ≡ 0
unfolding length_octets
size_none id h = rw (le-leb 0x80 id h)

pub size_two : (id : ℕ) → 0x70 ≤ id → id < 0x80 → length_octets id ≡ 2
unfolding length_octets
size_two id h k = rw (lt-leb 0x80 id k, le-leb 0x70 id h)

pub size_one : (id : ℕ) → id < 0x70 → length_octets id ≡ 1
unfolding length_octets
size_one id h = rw (lt-leb 0x80 id (omega arith), lt-leb 0x70 id h)

-- ---- examples: a message, and what it hands out in order, behind its number

pub record Example : Type 0 where
  pub message : List ℕ
  pub number : ℕ
  pub records : List OneRecord

abbrev reads : List ℕ → List OneRecord → Example
reads s l = record { message = s; number = 0; records = l }

abbrev refuses : ℕ → List ℕ → Example
refuses n s = record { message = s; number = n; records = [] }

abbrev held : ℕ → List ℕ → Held
held n v = record { name = n; value = v }

abbrev failed : ℕ → ℕ → Failed
failed n c = record { name = n; cause = c }

-- element 71 of one value and one error, and element 72 of one record of each kind
abbrev status : List ℕ
status = 0x71 ∷ 0x00 ∷ 0x0A ∷ 0x01 ∷ 0x00 ∷ 0x03 ∷ 0x00 ∷ 0x01 ∷ 0x07 ∷ 0x01 ∷ 0x00 ∷ 0x02 ∷ 0x01 ∷ []

abbrev status_records : List OneRecord
status_records = a_value (held 0x0003 (0x07 ∷ [])) ∷ a_read_error (failed 0x0002 0x01) ∷ []

abbrev result : List ℕ
result =
    0x72 ∷ 0x00 ∷ 0x0F ∷ 0x01 ∷ 0x00 ∷ 0x03 ∷ 0x01 ∷ 0x01 ∷ 0x01 ∷ 0x00 ∷ 0x08 ∷ 0x6F ∷ 0x00 ∷ 0x04 ∷ 0x00 ∷ 0x06 ∷ 0x00 ∷ 0x00 ∷ []

abbrev result_records : List OneRecord
result_records = an_update (held 0x0003 (0x01 ∷ [])) ∷ an_update_error (failed 0x0008 0x6F) ∷ a_long_update (held 0x0006 []) ∷ []

abbrev names : List ℕ
names = 0x70 ∷ 0x00 ∷ 0x04 ∷ 0x00 ∷ 0x01 ∷ 0x80 ∷ 0x01 ∷ []

abbrev name_records : List OneRecord
name_records = a_name 0x0001 ∷ a_name 0x8001 ∷ []

pub examples : List Example
examples =
    -- no element; all three; one kind of each
    reads (2 ∷ []) []
    ∷ reads (2 ∷ (names ++ (status ++ result))) (name_records ++ (status_records ++ result_records))
    ∷ reads (2 ∷ 0x70 ∷ 0x00 ∷ 0x00 ∷ []) []
    -- unknown elements of each size; a repeated one; ones behind a higher one
    ∷ reads (2 ∷ 0x80 ∷ 0xFF ∷ 0x7F ∷ 0x00 ∷ 0x01 ∷ 0x71 ∷ 0x6F ∷ 0x02 ∷ 0x72 ∷ 0x70 ∷ 0x00 ∷ 0x00 ∷ (status ++ (0x73 ∷ 0x00 ∷ 0x00 ∷ result))) (status_records ++ result_records)
    ∷ reads (2 ∷ (status ++ (0x71 ∷ 0x00 ∷ 0x01 ∷ 0x05 ∷ (names ++ [])))) status_records
    ∷ reads (2 ∷ (result ++ (status ++ (0x70 ∷ 0x00 ∷ 0x01 ∷ 0x05 ∷ [])))) result_records
    -- causes
    ∷ reads (2 ∷ 0x71 ∷ 0x00 ∷ 0x08 ∷ 0x00 ∷ 0x02 ∷ 0x00 ∷ 0x05 ∷ 0x03 ∷ 0x00 ∷ 0x05 ∷ 0x04 ∷ []) (a_read_error (failed 0x0005 0x03) ∷ a_read_error (failed 0x0005 0x6F) ∷ [])
    ∷ reads (2 ∷ 0x72 ∷ 0x00 ∷ 0x08 ∷ 0x00 ∷ 0x02 ∷ 0x00 ∷ 0x05 ∷ 0x03 ∷ 0x00 ∷ 0x05 ∷ 0x02 ∷ []) (an_update_error (failed 0x0005 0x6F) ∷ an_update_error (failed 0x0005 0x02) ∷ [])
    -- a length of 0 before the long updates
    ∷ reads (2 ∷ 0x72 ∷ 0x00 ∷ 0x04 ∷ 0x00 ∷ 0x00 ∷ 0x00 ∷ 0x00 ∷ []) []
    -- notifications, and octets behind one
    ∷ reads (3 ∷ 0x00 ∷ 0x02 ∷ 0x00 ∷ 0x00 ∷ []) []
    ∷ reads (3 ∷ 0x00 ∷ 0x07 ∷ 0x01 ∷ 0x00 ∷ 0xA0 ∷ 0x00 ∷ 0x01 ∷ 0x07 ∷ 0x00 ∷ 0x71 ∷ 0xFF ∷ []) (a_value (held 0x00A0 (0x07 ∷ [])) ∷ [])
    -- refusals
    ∷ refuses 2 []
    ∷ refuses 3 (2 ∷ zeros 4096)
    ∷ refuses 13 (1 ∷ [])
    ∷ refuses 13 (4 ∷ status)
    -- a length cut short, contents cut short, of a known and of an unknown element
    ∷ refuses 14 (2 ∷ 0x70 ∷ 0x00 ∷ [])
    ∷ refuses 14 (2 ∷ 0x71 ∷ 0x00 ∷ 0x02 ∷ 0x00 ∷ [])
    ∷ refuses 14 (2 ∷ 0x10 ∷ [])
    ∷ refuses 14 (2 ∷ 0x10 ∷ 0x01 ∷ [])
    -- a name cut short, a count missing, a value cut short, octets left over
    ∷ refuses 14 (2 ∷ 0x70 ∷ 0x00 ∷ 0x01 ∷ 0x05 ∷ [])
    ∷ refuses 14 (2 ∷ 0x71 ∷ 0x00 ∷ 0x00 ∷ [])
    ∷ refuses 14 (2 ∷ 0x71 ∷ 0x00 ∷ 0x01 ∷ 0x00 ∷ [])
    ∷ refuses 14 (2 ∷ 0x71 ∷ 0x00 ∷ 0x06 ∷ 0x01 ∷ 0x00 ∷ 0x03 ∷ 0x00 ∷ 0x02 ∷ 0x07 ∷ [])
    ∷ refuses 14 (2 ∷ 0x71 ∷ 0x00 ∷ 0x03 ∷ 0x00 ∷ 0x00 ∷ 0x00 ∷ [])
    ∷ refuses 14 (2 ∷ 0x72 ∷ 0x00 ∷ 0x03 ∷ 0x00 ∷ 0x00 ∷ 0x00 ∷ [])
    ∷ refuses 14 (2 ∷ 0x72 ∷ 0x00 ∷ 0x05 ∷ 0x00 ∷ 0x00 ∷ 0x00 ∷ 0x00 ∷ 0x00 ∷ [])
    ∷ refuses 14 (2 ∷ 0x72 ∷ 0x00 ∷ 0x05 ∷ 0x00 ∷ 0x00 ∷ 0x00 ∷ 0x01 ∷ 0x00 ∷ [])
    ∷ refuses 14 (3 ∷ 0x00 ∷ 0x03 ∷ 0x00 ∷ 0x00 ∷ [])
    ∷ refuses 14 (3 ∷ 0x00 ∷ [])
    ∷ []

unfoldable pub read_of : Example → Example
read_of x = record { message = x.message; number = (capture x.message).number; records = in_order (capture x.message).records }

pub captures : map read_of examples ≡ examples
unfolding at16 part as_number_from as_number first_failed when_passed in_order then_read sized front_name front_held front_failed update_cause read_cause several behind_count until_end_in until_end exactly names_in status_in longs_in result_in length_octets is_read keeping elements_in elements_of of_element of_elements in_reply in_notification is_reply is_notification contained capture_checks or_nothing capture read_of examples
captures = refl
