-- Messages and what they print, computed: a record of each kind in a reply, a notification, and messages that are refused.
use Prim.Native.Nat.{ℕ}
use Prim.Native.String.{String}
use mathlib.Core.Path.{◌≡◌, refl}
use mathlib.Core.List.{List, [], ◌∷◌, map}
use Rattle.meaning.specs.Octets.{at16, be16, part, flat}
use Rattle.meaning.specs.Checks.{first_failed, when_passed}
use Rattle.meaning.specs.Table.{rows, place_in, place}
use Rattle.meaning.specs.Block.{as_number_from, as_number}
use Rattle.meaning.specs.Capture.{in_order, then_read, sized, front_name, front_held, front_failed, update_cause, read_cause, several, behind_count, until_end_in, until_end, exactly, names_in, status_in, longs_in, result_in, length_octets, is_read, keeping, elements_in, elements_of, of_element, of_elements, in_reply, in_notification, is_reply, is_notification, contained, capture_checks, or_nothing, capture}
use Rattle.octets.specs.Letters.{letters}
use Rattle.text.specs.Lines.{digit, hex, decimal, shown_octets, octets_line, line}
use Rattle.words.specs.Words.{parameters, word_at, word, cause_word}
use Rattle.words.specs.Lines.{started, name_line, held_line, failed_line, record_line, complete_line, notify_line, message_lines}

record Example : Type 0 where
  message : List ℕ
  prints : String

abbrev example : List ℕ → String → Example
example m p = record { message = m; prints = p }

-- names; values and read errors; updates, update errors and long updates
abbrev reply : List ℕ
reply =
    0x02
    ∷ 0x70 ∷ 0x00 ∷ 0x04 ∷ 0x00 ∷ 0x03 ∷ 0x80 ∷ 0x01
    ∷ 0x71 ∷ 0x00 ∷ 0x11
    ∷ 0x02 ∷ 0x00 ∷ 0x03 ∷ 0x00 ∷ 0x01 ∷ 0x01 ∷ 0x00 ∷ 0x06 ∷ 0x00 ∷ 0x00
    ∷ 0x02 ∷ 0x00 ∷ 0x04 ∷ 0x03 ∷ 0x12 ∷ 0x34 ∷ 0x01
    ∷ 0x72 ∷ 0x00 ∷ 0x14
    ∷ 0x01 ∷ 0x00 ∷ 0x03 ∷ 0x01 ∷ 0x00
    ∷ 0x02 ∷ 0x00 ∷ 0x05 ∷ 0x02 ∷ 0x00 ∷ 0x0B ∷ 0x55
    ∷ 0x00 ∷ 0x06 ∷ 0x00 ∷ 0x06 ∷ 0x00 ∷ 0x02 ∷ 0xAB ∷ 0xCD
    ∷ []

abbrev examples : List Example
examples =
    example reply
    "complete\n  name 0003 GateEnabled\n  name 8001 commit\n  value 0003 GateEnabled 01\n  value 0006 AdminControlList -\n  read-error 0004 AdminBaseTime 03 unavailable\n  read-error 1234 unknown 01 not-supported\n  update 0003 GateEnabled 00\n  update-error 0005 AdminControlListLength 02 invalid-value\n  update-error 000b SupportedListMax 6f protocol-error\n  long-update 0006 AdminControlList abcd\n"
    ∷ example (0x03 ∷ 0x00 ∷ 0x02 ∷ 0x00 ∷ 0x00 ∷ []) "notify\n"
    ∷ example (0x03 ∷ 0x00 ∷ 0x05 ∷ 0x00 ∷ 0x01 ∷ 0x00 ∷ 0xA0 ∷ 0x03 ∷ []) "notify\n  read-error 00a0 lldpV2RemChassisIdSubtype 03 unavailable\n"
    ∷ example (0x02 ∷ []) "complete\n"
    ∷ example (0x01 ∷ []) "13 -\n"
    ∷ example (0x02 ∷ 0x70 ∷ []) "14 -\n"
    ∷ example [] "2 -\n"
    ∷ []

pub printed : map (λ e. message_lines e.message) examples ≡ map (λ e. letters e.prints) examples
unfolding at16 be16 part flat first_failed when_passed rows place_in place as_number_from as_number in_order then_read sized front_name front_held front_failed update_cause read_cause several behind_count until_end_in until_end exactly names_in status_in longs_in result_in length_octets is_read keeping elements_in elements_of of_element of_elements in_reply in_notification is_reply is_notification contained capture_checks or_nothing capture letters digit hex decimal shown_octets octets_line line parameters word_at word cause_word started name_line held_line failed_line record_line complete_line notify_line message_lines
printed = refl
