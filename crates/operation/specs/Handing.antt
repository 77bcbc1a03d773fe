-- The operations of the code's enum as those of `meaning`, and what a list hands out.
use Rattle.std.specs.Prelude.{ℕ, ◌+◌, ◌-◌, ◌≤◌, ◌<◌, ◌≡◌, ◌⊎◌, cond, List, [], ◌∷◌, length, drop, Option, Some, None, Result, Ok, Err, ⊤}
use Rattle.meaning.specs.Octets.{part}
use Rattle.meaning.specs.Operation.{capabilities, read, set, subscribe, unsubscribe, selective_read, selective_subscribe, selective_unsubscribe, delete_entry, Next, bad, got, shape, shaped, parse, is_some, in_message, break_of}
use Rattle.meaning.specs.Operation as operation
use Rattle.meaning.specs.Wire.{code_capabilities, code_read, code_subscribe, code_unsubscribe}
use Rattle.operation.specs.declared.NamedValue.{NamedValue}
use Rattle.operation.specs.declared.Op.{Op}
use Rattle.operation.specs.declared.Op.TheVariants.{Capabilities, Read, Set, Subscribe, Unsubscribe, SelectiveRead, SelectiveSubscribe, SelectiveUnsubscribe, DeleteEntry}
use Rattle.operation.specs.declared.NextOperation.{NextOperation}
use Rattle.operation.specs.declared.Malformed.{Malformed}

-- an operation of the list s: its value is a part of it
unfoldable pub op_of : List ℕ → Op → operation.Op
op_of s Capabilities = capabilities
op_of s (Read n) = read n
op_of s (Set v) = set v.name (part s v.from v.size)
op_of s (Subscribe n) = subscribe n
op_of s (Unsubscribe n) = unsubscribe n
op_of s (SelectiveRead v) = selective_read v.name (part s v.from v.size)
op_of s (SelectiveSubscribe v) = selective_subscribe v.name (part s v.from v.size)
op_of s (SelectiveUnsubscribe v) = selective_unsubscribe v.name (part s v.from v.size)
op_of s (DeleteEntry v) = delete_entry v.name (part s v.from v.size)

-- the name of an operation; 0 where it has none
unfoldable pub name_of : Op → ℕ
name_of Capabilities = 0
name_of (Read n) = n
name_of (Set v) = v.name
name_of (Subscribe n) = n
name_of (Unsubscribe n) = n
name_of (SelectiveRead v) = v.name
name_of (SelectiveSubscribe v) = v.name
name_of (SelectiveUnsubscribe v) = v.name
name_of (DeleteEntry v) = v.name

-- where the value of a set lies; 0 for any other operation, whose value no answer has
unfoldable pub from_of : Op → ℕ
from_of Capabilities = 0
from_of (Read n) = 0
from_of (Set v) = v.from
from_of (Subscribe n) = 0
from_of (Unsubscribe n) = 0
from_of (SelectiveRead v) = 0
from_of (SelectiveSubscribe v) = 0
from_of (SelectiveUnsubscribe v) = 0
from_of (DeleteEntry v) = 0

unfoldable pub size_of : Op → ℕ
size_of Capabilities = 0
size_of (Read n) = 0
size_of (Set v) = v.size
size_of (Subscribe n) = 0
size_of (Unsubscribe n) = 0
size_of (SelectiveRead v) = 0
size_of (SelectiveSubscribe v) = 0
size_of (SelectiveUnsubscribe v) = 0
size_of (DeleteEntry v) = 0

-- a name is a number of two octets, and a value lies within n octets
abbrev pub Inside : ℕ → Op → Type 0
Inside n Capabilities = Unit {0}
Inside n (Read name) = name < 65536
Inside n (Set v) = (v.name < 65536) × (v.from + v.size ≤ n)
Inside n (Subscribe name) = name < 65536
Inside n (Unsubscribe name) = name < 65536
Inside n (SelectiveRead v) = (v.name < 65536) × (v.from + v.size ≤ n)
Inside n (SelectiveSubscribe v) = (v.name < 65536) × (v.from + v.size ≤ n)
Inside n (SelectiveUnsubscribe v) = (v.name < 65536) × (v.from + v.size ≤ n)
Inside n (DeleteEntry v) = (v.name < 65536) × (v.from + v.size ≤ n)

-- ---- what a list hands out

-- a code of those behind which no value stands: get capabilities, read, subscribe, unsubscribe
abbrev pub NoValue : ℕ → Type 0
NoValue c = (c ≡ code_capabilities) ⊎ ((c ≡ code_read) ⊎ ((c ≡ code_subscribe) ⊎ (c ≡ code_unsubscribe)))

-- a name and a value that stand behind a code at a place
abbrev pub value_at : ℕ → ℕ → List ℕ → NamedValue
value_at at n v = record { name = n; from = at + 5; size = length v }

-- an operation that stands at a place: a value lies behind the code, the name and the length, 5 octets
unfoldable pub op_at : ℕ → operation.Op → Op
op_at at capabilities = Capabilities
op_at at (read n) = Read n
op_at at (set n v) = Set (value_at at n v)
op_at at (subscribe n) = Subscribe n
op_at at (unsubscribe n) = Unsubscribe n
op_at at (selective_read n v) = SelectiveRead (value_at at n v)
op_at at (selective_subscribe n v) = SelectiveSubscribe (value_at at n v)
op_at at (selective_unsubscribe n v) = SelectiveUnsubscribe (value_at at n v)
op_at at (delete_entry n v) = DeleteEntry (value_at at n v)

-- what a list hands out at a place: an operation and the place behind it; nothing at the end; or the position of one that is malformed or cut short
abbrev pub Handed : Type 0
Handed = Result (Option NextOperation) Malformed

-- the operation o and the place behind it; the end; the position q of one that is malformed or cut short
abbrev pub handed : Op → ℕ → Handed
handed o behind = Ok (Some (record { op = o; behind = behind }))

abbrev pub ended : Handed
ended = Ok None

abbrev pub refused : ℕ → Handed
refused q = Err (record { position = q })

-- what is found at a place of n octets; the octets behind an operation tell the place after it, and what is none tells its position in the message
unfoldable pub found_at : ℕ → ℕ → Next → Handed
found_at n at bad = refused (in_message at)
found_at n at (got o rest) = handed (op_at at o) (n - length rest)

-- the end where no octet is left at the place, else what the first operation of those left is in the profile p
unfoldable pub handed_from : ℕ → ℕ → ℕ → List ℕ → Handed
handed_from p n at [] = ended
handed_from p n at (c ∷ s) = found_at n at (shaped (shape p c) s)

-- what the list s hands out at a place
unfoldable pub handed_at : ℕ → List ℕ → ℕ → Handed
handed_at p s at = handed_from p (length s) at (drop at s)

-- the operation of what is handed out, and the place at which a reader then goes on
unfoldable pub operation_in : Handed → Result (Option Op) Malformed
operation_in (Ok (Some n)) = Ok (Some n.op)
operation_in (Ok None) = Ok None
operation_in (Err e) = Err e

unfoldable pub place_behind : ℕ → Handed → ℕ
place_behind at (Ok (Some n)) = n.behind
place_behind at (Ok None) = at
place_behind at (Err e) = at

-- ---- whether a list is whole, or where it breaks

unfoldable pub wholeness : ℕ → List ℕ → Result ⊤ Malformed
wholeness p s = cond (is_some (parse p s)) (Ok tt) (Err (record { position = break_of p s }))
