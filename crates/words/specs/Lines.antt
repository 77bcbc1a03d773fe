-- The lines that a captured message prints: its type, then one for each record.
use Rattle.std.specs.Prelude.{ℕ, ◌+◌, cond, List, [], ◌∷◌, ◌++◌, length}
use Rattle.meaning.specs.Octets.{be16, flat}
use Rattle.meaning.specs.Checks.{when_passed}
use Rattle.meaning.specs.Reply.{Held, Failed}
use Rattle.meaning.specs.Capture.{OneRecord, a_name, a_value, a_read_error, an_update, an_update_error, a_long_update, in_order, is_reply, capture}
use Rattle.octets.specs.Letters.{letters}
use Rattle.text.specs.Lines.{hex, octets_line, line}
use Rattle.words.specs.Words.{word, cause_word}
use Rattle.words.specs.declared.Valued.{Valued}
use Rattle.words.specs.declared.Valued.TheVariants.{Value, Update, LongUpdate}
use Rattle.words.specs.declared.Failing.{Failing}
use Rattle.words.specs.declared.Failing.TheVariants.{ReadError, UpdateError}
use Rattle.words.specs.declared.Fixed.{Fixed}
use Rattle.words.specs.declared.Fixed.TheVariants.{Complete, Notify, NotAMessage}

-- the kind of a record between blanks, a name in four digits, its word
unfoldable pub started : List ℕ → ℕ → List ℕ
started kind name = kind ++ (hex (be16 name) ++ (letters " " ++ word name))

unfoldable pub name_line : ℕ → List ℕ
name_line name = started (letters "  name ") name ++ letters "\n"

unfoldable pub held_line : List ℕ → Held → List ℕ
held_line kind h = started kind h.name ++ (letters " " ++ octets_line h.value)

unfoldable pub failed_line : List ℕ → Failed → List ℕ
failed_line kind f =
    started kind f.name
    ++ (letters " " ++ (hex (f.cause ∷ []) ++ (letters " " ++ (cause_word f.cause ++ letters "\n"))))

unfoldable pub record_line : OneRecord → List ℕ
record_line (a_name n) = name_line n
record_line (a_value h) = held_line (letters "  value ") h
record_line (a_read_error f) = failed_line (letters "  read-error ") f
record_line (an_update h) = held_line (letters "  update ") h
record_line (an_update_error f) = failed_line (letters "  update-error ") f
record_line (a_long_update h) = held_line (letters "  long-update ") h

-- the kinds of a record with a value, and of one with a cause: how a line of each starts, and a record of each
unfoldable pub valued_word : Valued → List ℕ
valued_word Value = letters "  value "
valued_word Update = letters "  update "
valued_word LongUpdate = letters "  long-update "

unfoldable pub valued : Valued → Held → OneRecord
valued Value h = a_value h
valued Update h = an_update h
valued LongUpdate h = a_long_update h

unfoldable pub failing_word : Failing → List ℕ
failing_word ReadError = letters "  read-error "
failing_word UpdateError = letters "  update-error "

unfoldable pub failing : Failing → Failed → OneRecord
failing ReadError f = a_read_error f
failing UpdateError f = an_update_error f

unfoldable pub complete_line : List ℕ
complete_line = letters "complete\n"

unfoldable pub notify_line : List ℕ
notify_line = letters "notify\n"

-- what octets print: a number and `-` where they are refused
unfoldable pub message_lines : List ℕ → List ℕ
message_lines s =
    when_passed (capture s).number
    (cond (is_reply s) complete_line notify_line ++ flat record_line (in_order (capture s).records))
    (λ n. line n [])

-- what a line prints that is no message and stands for nothing
unfoldable pub not_a_message : List ℕ
not_a_message = letters "not a message\n"

-- a line of which every octet is known
unfoldable pub fixed_line : Fixed → List ℕ
fixed_line Complete = complete_line
fixed_line Notify = notify_line
fixed_line NotAMessage = not_a_message

-- octets that a record takes in a message: name (2), length (2, or 1 of an update), value; name (2), cause
unfoldable pub record_size : OneRecord → ℕ
record_size (a_name n) = 2
record_size (a_value h) = 4 + length h.value
record_size (a_read_error f) = 3
record_size (an_update h) = 3 + length h.value
record_size (an_update_error f) = 3
record_size (a_long_update h) = 4 + length h.value
