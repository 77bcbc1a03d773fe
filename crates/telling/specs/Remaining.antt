-- The records that are left to be told: what has been handed out, and what its cursor holds behind it.
use Rattle.std.specs.Prelude.{ℕ, ◌+◌, cond, List, [], ◌∷◌, Some, None, Ok, Err}
use Rattle.std.proofs.Math.Option.{Option, none, some}
use Rattle.meaning.specs.Capture.{Capture, capturing, OneRecord, in_order, front_name, front_held, front_failed, read_cause, update_cause, until_end, is_reply}
use Rattle.contents.specs.Spans.{octets_of}
use Rattle.capture.specs.Handing.{Handed, record_of, Inside}
use Rattle.capture.proofs.FromCursor.{Holds}
use Rattle.capture.specs.declared.Cursor.{Cursor}
use Rattle.words.specs.Lines.{complete_line, notify_line, record_size}

unfoldable pub head_line : List ℕ → List ℕ
head_line s = cond (is_reply s) complete_line notify_line

-- octets of some records in a message
unfoldable pub sizes : List OneRecord → ℕ
sizes [] = 0
sizes (r ∷ rs) = record_size r + sizes rs

abbrev pub or_none : {A : Type 0} → Option (List A) → List A
or_none none = []
or_none (some l) = l

-- the records in the spans of a cursor
unfoldable pub held : List ℕ → Cursor → Capture
held s c =
    capturing
    (or_none (until_end front_name (octets_of s c.names)))
    (or_none (until_end (front_held 2) (octets_of s c.values)))
    (or_none (until_end (front_failed read_cause) (octets_of s c.read_errors)))
    (or_none (until_end (front_held 1) (octets_of s c.updates)))
    (or_none (until_end (front_failed update_cause) (octets_of s c.update_errors)))
    (or_none (until_end (front_held 2) (octets_of s c.long_updates)))

unfoldable pub remaining : List ℕ → Handed → List OneRecord
remaining s (Ok (Some h)) = record_of s h.0 ∷ in_order (held s h.1)
remaining s (Ok None) = []
remaining s (Err e) = []

-- a record that lies in the message, with whole records behind it; or the end
abbrev pub Ready : List ℕ → Handed → Type 0
Ready s (Ok (Some h)) = Inside s h.0 × Holds s h.1 (held s h.1)
Ready s (Ok None) = Unit {0}
Ready s (Err e) = Unit {0}
