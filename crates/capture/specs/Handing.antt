-- What a message hands out at a cursor, for every message and every cursor: the record at the front of the first span that has octets left, as
-- `Capture` of `meaning` reads it there, and the cursor without it.
use Rattle.std.specs.Prelude.{ℕ, ◌-◌, ◌≤◌, cond, List, length, leb, ltb, Option as Returned, Some, None, Result, Ok, Err}
use Rattle.std.proofs.Math.Option.{Option, none, some}
use Rattle.meaning.specs.Reply.{Held as OneHeld, Failed as OneFailed}
use Rattle.meaning.specs.Wire.{reply_most}
use Rattle.meaning.specs.Capture.{OneRecord, a_name, a_value, a_read_error, an_update, an_update_error, a_long_update, front_name, front_held, front_failed, read_cause, update_cause, is_reply, is_notification}
use Rattle.contents.specs.Spans.{span, octets_of, standing}
use Rattle.contents.specs.declared.Span.{Span}
use Rattle.capture.specs.Opening.{cursor, opened_reply, opened_notification}
use Rattle.capture.specs.declared.Cursor.{Cursor}
use Rattle.capture.specs.declared.Record.{Record}
use Rattle.capture.specs.declared.Record.TheVariants.{Name, Value, ReadError, Update, UpdateError, LongUpdate}
use Rattle.capture.specs.declared.Refusal.{Refusal}
use Rattle.capture.specs.declared.Refusal.TheVariants.{MessageEmpty, MessageTooLong, TypeUnknown, CutShort}

-- what is handed out: a record and the cursor behind it, the end, or why the message is refused
abbrev pub Handed : Type 0
Handed = Result (Returned (Record × Cursor)) Refusal

abbrev pub handed : Record → Cursor → Handed
handed r c = Ok (Some (r, c))

abbrev pub the_end : Handed
the_end = Ok None

abbrev pub refused : Refusal → Handed
refused e = Err e

-- its number (RULES 20.4)
unfoldable pub refusal_number : Refusal → ℕ
refusal_number MessageEmpty = 2
refusal_number MessageTooLong = 3
refusal_number TypeUnknown = 13
refusal_number CutShort = 14

unfoldable pub number_of : Handed → ℕ
number_of (Ok h) = 0
number_of (Err e) = refusal_number e

-- ---- a record of the message s

-- as one of `meaning`: its value is a part of the message
unfoldable pub record_of : List ℕ → Record → OneRecord
record_of s (Name n) = a_name n
record_of s (Value n p) = a_value (record { name = n; value = octets_of s p })
record_of s (ReadError n c) = a_read_error (record { name = n; cause = c })
record_of s (Update n p) = an_update (record { name = n; value = octets_of s p })
record_of s (UpdateError n c) = an_update_error (record { name = n; cause = c })
record_of s (LongUpdate n p) = a_long_update (record { name = n; value = octets_of s p })

-- the value of a record lies in the message
abbrev pub Inside : List ℕ → Record → Type 0
Inside s (Name n) = Unit {0}
Inside s (Value n p) = (p.from ≤ p.to) × (p.to ≤ length s)
Inside s (ReadError n c) = Unit {0}
Inside s (Update n p) = (p.from ≤ p.to) × (p.to ≤ length s)
Inside s (UpdateError n c) = Unit {0}
Inside s (LongUpdate n p) = (p.from ≤ p.to) × (p.to ≤ length s)

-- ---- the front of a span

-- what `one` reads at the front of a span; nothing where the span is not all in the message
unfoldable pub front_of : {A : Type 0} → (List ℕ → Option (A × List ℕ)) → List ℕ → Span → Option (A × List ℕ)
front_of one s p = cond (leb p.to (length s)) (one (octets_of s p)) none

unfoldable pub named_by : Option (ℕ × List ℕ) → Returned ℕ
named_by none = None
named_by (some r) = Some r.0

unfoldable pub name_in : List ℕ → Span → Returned ℕ
name_in s p = named_by (front_of front_name s p)

unfoldable pub held_by : ℕ → Option (OneHeld × List ℕ) → Returned (ℕ × Span)
held_by to none = None
held_by to (some r) = Some (r.0.name, standing to r.0.value r.1)

unfoldable pub held_in : ℕ → List ℕ → Span → Returned (ℕ × Span)
held_in w s p = held_by p.to (front_of (front_held w) s p)

unfoldable pub failed_by : Option (OneFailed × List ℕ) → Returned (ℕ × ℕ)
failed_by none = None
failed_by (some r) = Some (r.0.name, r.0.cause)

unfoldable pub failed_in : List ℕ → Span → Returned (ℕ × ℕ)
failed_in s p = failed_by (front_of (front_failed (λ c. c)) s p)

-- ---- what is handed out

-- a record of what is at the front of a span that ends at a place, with the rest of that span put into the cursor
unfoldable pub handing : {A : Type 0} → (ℕ → A → Record) → (Span → Cursor) → ℕ → Option (A × List ℕ) → Handed
handing make put to none = refused CutShort
handing make put to (some r) = handed (make (to - length r.1) r.0) (put (span (to - length r.1) to))

-- a value, which ends at a place
unfoldable pub valued : (ℕ → Span → Record) → ℕ → OneHeld → Record
valued make end h = make h.name (span (end - length h.value) end)

unfoldable pub failed : (ℕ → ℕ → Record) → ℕ → OneFailed → Record
failed make end f = make f.name f.cause

unfoldable pub handed_name : List ℕ → Cursor → Handed
handed_name s c =
    handing (λ end n. Name n) (λ p. cursor p c.values c.read_errors c.updates c.update_errors c.long_updates)
    c.names.to (front_of front_name s c.names)

unfoldable pub handed_value : List ℕ → Cursor → Handed
handed_value s c =
    handing (valued Value) (λ p. cursor c.names p c.read_errors c.updates c.update_errors c.long_updates)
    c.values.to (front_of (front_held 2) s c.values)

unfoldable pub handed_read_error : List ℕ → Cursor → Handed
handed_read_error s c =
    handing (failed ReadError) (λ p. cursor c.names c.values p c.updates c.update_errors c.long_updates)
    c.read_errors.to (front_of (front_failed read_cause) s c.read_errors)

unfoldable pub handed_update : List ℕ → Cursor → Handed
handed_update s c =
    handing (valued Update) (λ p. cursor c.names c.values c.read_errors p c.update_errors c.long_updates)
    c.updates.to (front_of (front_held 1) s c.updates)

unfoldable pub handed_update_error : List ℕ → Cursor → Handed
handed_update_error s c =
    handing (failed UpdateError) (λ p. cursor c.names c.values c.read_errors c.updates p c.long_updates)
    c.update_errors.to (front_of (front_failed update_cause) s c.update_errors)

unfoldable pub handed_long_update : List ℕ → Cursor → Handed
handed_long_update s c =
    handing (valued LongUpdate) (λ p. cursor c.names c.values c.read_errors c.updates c.update_errors p)
    c.long_updates.to (front_of (front_held 2) s c.long_updates)

-- where octets of a kind are left, its record, else what comes behind that kind
unfoldable pub if_left : Span → Handed → Handed → Handed
if_left p here behind = cond (ltb p.from p.to) here behind

-- the record that comes next, in the order of RULES 20.22
unfoldable pub handed_at : List ℕ → Cursor → Handed
handed_at s c =
    if_left c.names (handed_name s c)
    (if_left c.values (handed_value s c)
    (if_left c.read_errors (handed_read_error s c)
    (if_left c.updates (handed_update s c)
    (if_left c.update_errors (handed_update_error s c)
    (if_left c.long_updates (handed_long_update s c)
    the_end)))))

-- ---- the first of a message

unfoldable pub of_opened : List ℕ → Returned Cursor → Handed
of_opened s None = refused CutShort
of_opened s (Some c) = handed_at s c

unfoldable pub handed_first : List ℕ → Handed
handed_first s =
    cond (ltb (length s) 1) (refused MessageEmpty)
    (cond (ltb reply_most (length s)) (refused MessageTooLong)
    (cond (is_reply s) (of_opened s (opened_reply s))
    (cond (is_notification s) (of_opened s (opened_notification s))
    (refused TypeUnknown))))
