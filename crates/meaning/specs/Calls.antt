-- The calls: each a function of the lent octets that gives the number, the position, the octets written, the memory and the room afterwards.
use Rattle.std.specs.Prelude.{ℕ, zero, suc, ◌+◌, Bool, true, false, ◌&&◌, ◌||◌, not, cond, List, [], ◌∷◌, ◌++◌, length, drop, eqb, leb, ltb}
use Rattle.meaning.specs.Octets.{octet, at16, be16, part, same, nonempty, every, implies}
use Rattle.meaning.specs.Checks.{Checks, passed, check, first_failed, when_passed}
use Rattle.meaning.specs.Table.{row_at, place, by_port, entry_count, memory_length}
use Rattle.meaning.specs.Wire.{type_command, type_notify, type_notify_ack, type_notify_complete, message_most, reply_most, notification_room, expiries_most}
use Rattle.meaning.specs.Block.{permits}
use Rattle.meaning.specs.Memory.{present, subscribed, pending, in_flight, body, flags, put, set_marks, set_timer, waiting, expiries, fresh}
use Rattle.meaning.specs.Profile.{cause_absent, sound_in}
use Rattle.meaning.specs.Operation.{Op, parse, is_some, or_none, break_of}
use Rattle.meaning.specs.Step.{Answer, value, read_error, after, answers}
use Rattle.meaning.specs.Reply.{Records, gathered, complete, counts_fit, read_contents}

-- What a call gives. The length returned is that of `written`. A call that is lent no room has an empty one. The position says where a command
-- breaks, and is 0 where none does.
pub record Outcome : Type 0 where
  pub number : ℕ
  pub position : ℕ
  pub written : List ℕ
  pub memory : List ℕ
  pub room : List ℕ

-- octets written at the room's start; those after them stay (RULES 2.6)
abbrev pub done : List ℕ → List ℕ → List ℕ → Outcome
done w m room = record { number = 0; position = 0; written = w; memory = m; room = w ++ drop (length w) room }

-- a number with nothing written
abbrev pub number_only : ℕ → List ℕ → List ℕ → Outcome
number_only n m room = record { number = n; position = 0; written = []; memory = m; room = room }

-- a call: where a check fails its number, and no lent octet changes (RULES 15.24, 15.25)
unfoldable pub call : Checks → Outcome → List ℕ → List ℕ → Outcome
call cs o m room = when_passed (first_failed cs) o (λ n. number_only n m room)

-- ---- what becomes of the marks of a notification: it is sent, acknowledged, or given up (RULES 14.6, 14.11, 14.10)

pub data Moment : Type 0 where
  when_sent when_acknowledged when_given_up : Moment

-- the marks pending and in flight of an entry, from what they were
unfoldable pub pending_after : Moment → Bool → Bool → Bool
pending_after when_sent q i = false
pending_after when_acknowledged q i = q
pending_after when_given_up q i = q || i

unfoldable pub in_flight_after : Moment → Bool → Bool → Bool
in_flight_after when_sent q i = q
in_flight_after when_acknowledged q i = false
in_flight_after when_given_up q i = false

-- those of the first k entries, every subscription, presence and value as it was
unfoldable pub turned : Moment → ℕ → List ℕ → List ℕ
turned t zero m = m
turned t (suc k) m =
    let c = turned t k m in
    set_marks c k (subscribed c k) (pending_after t (pending c k) (in_flight c k)) (in_flight_after t (pending c k) (in_flight c k))

-- ---- a message (RULES 9, RULES 10)

-- the two types that are taken: a command, an acknowledgement (RULES 9.2)
unfoldable pub is_command : List ℕ → Bool
is_command s = eqb (octet s 0) type_command

unfoldable pub is_acknowledgement : List ℕ → Bool
is_acknowledgement s = eqb (octet s 0) type_notify_ack

-- L and its octets (RULES 10.1); whatever stands behind those is left out (RULES 10.3)
unfoldable pub length_field : List ℕ → ℕ
length_field s = at16 s 1

unfoldable pub operations : List ℕ → List ℕ
operations s = part s 3 (length_field s)

unfoldable pub ops_of : ℕ → List ℕ → List Op
ops_of p s = or_none (parse p (operations s))

-- what L has to be (RULES 10.2)
unfoldable pub length_right : List ℕ → Bool
length_right s = every (leb 3 (length s) ∷ leb 1 (length_field s) ∷ leb (3 + length_field s) (length s) ∷ [])

-- what a message does once its checks pass: its reply, whether the reply's counts fit, and the memory afterwards
pub record Handled : Type 0 where
  pub reply : List ℕ
  pub counted : Bool
  pub memory : List ℕ

unfoldable pub records : ℕ → List ℕ → List Op → Records
records p m os = gathered (answers p m os)

unfoldable pub carried_out : ℕ → List ℕ → List Op → Handled
carried_out p m os = record { reply = complete p (records p m os); counted = counts_fit (records p m os); memory = after p m os }

unfoldable pub acknowledged : List ℕ → Handled
acknowledged m = record { reply = type_notify_complete ∷ []; counted = true; memory = set_timer (turned when_acknowledged entry_count m) 0 0 }

unfoldable pub handled : ℕ → List ℕ → List ℕ → Handled
handled p m s = cond (is_command s) (carried_out p m (ops_of p s)) (acknowledged m)

unfoldable pub fits : ℕ → Handled → Bool
fits n d = every (leb (length d.reply) n ∷ leb (length d.reply) reply_most ∷ d.counted ∷ [])

-- in the order of RULES 15.16
unfoldable pub message_checks : ℕ → List ℕ → List ℕ → ℕ → Checks
message_checks p m s n =
    check 1 (sound_in p m)
    (check 2 (leb 1 (length s))
    (check 3 (leb (length s) message_most)
    (check 4 (is_command s || is_acknowledgement s)
    (check 5 (implies (is_command s) (length_right s))
    (check 6 (implies (is_command s) (is_some (parse p (operations s))))
    (check 8 (implies (is_acknowledgement s) (waiting m))
    (check 7 (fits n (handled p m s)) passed)))))))

-- an outcome that tells the position p where its number is 6, and 0 with every other (RULES 15.27, 15.28)
abbrev pub located : ℕ → Outcome → Outcome
located p o = record { number = o.number; position = cond (eqb o.number 6) p 0; written = o.written; memory = o.memory; room = o.room }

unfoldable pub message : ℕ → List ℕ → List ℕ → List ℕ → Outcome
message p m s room =
    located (break_of p (operations s))
    (call (message_checks p m s (length room)) (done (handled p m s).reply (handled p m s).memory room) m room)

-- ---- a local value (RULES 13)

unfoldable pub local_permitted : ℕ → List ℕ → Bool
local_permitted n v =
    every
    (ltb (place n) entry_count
    ∷ by_port (row_at (place n)).owner
    ∷ (not (nonempty v) || permits (row_at (place n)) v)
    ∷ [])

-- value or presence differs: an absent value has length 0, and no value that the port sets is empty
unfoldable pub differs : List ℕ → ℕ → List ℕ → Bool
differs m k v = not (same (body m k) v)

-- stored or made absent (RULES 13.3, 13.4), when it is pending then (RULES 13.5 to 13.9), and in flight as it was (RULES 13.11)
unfoldable pub local_memory : List ℕ → ℕ → List ℕ → List ℕ
local_memory m k v =
    put m k (flags (nonempty v) (subscribed m k) (pending m k || (subscribed m k && differs m k v)) (in_flight m k)) v

unfoldable pub local_checks : ℕ → List ℕ → ℕ → List ℕ → Checks
local_checks p m n v = check 1 (sound_in p m) (check 12 (local_permitted n v) passed)

unfoldable pub local_value : ℕ → List ℕ → ℕ → List ℕ → Outcome
local_value p m n v = call (local_checks p m n v) (number_only 0 (local_memory m (place n) v) []) m []

-- ---- a notification (RULES 14.1 to 14.7)

unfoldable pub report : ℕ → List ℕ → ℕ → Answer
report p m k = cond (present m k) (value (row_at k).name (body m k)) (read_error (row_at k).name (cause_absent p))

-- of the pending names among the first k, in table order
unfoldable pub reports : ℕ → List ℕ → ℕ → List Answer
reports p m zero = []
reports p m (suc k) = reports p m k ++ cond (pending m k) (report p m k ∷ []) []

unfoldable pub notification : ℕ → List ℕ → List ℕ
notification p m =
    let c = read_contents (gathered (reports p m entry_count)) in
    type_notify ∷ be16 (length c) ++ c

unfoldable pub build_checks : ℕ → List ℕ → ℕ → Checks
build_checks p m n =
    check 1 (sound_in p m)
    (check 11 (leb notification_room n)
    (check 10 (not (waiting m))
    (check 9 (nonempty (reports p m entry_count)) passed)))

unfoldable pub build : ℕ → List ℕ → List ℕ → Outcome
build p m room =
    call (build_checks p m (length room)) (done (notification p m) (turned when_sent entry_count (set_timer m 1 0)) room) m room

-- ---- a timer expiry: 20 send again, 21 given up (RULES 14.8 to 14.10)

unfoldable pub expired : List ℕ → Outcome
expired m =
    cond (ltb (expiries m) expiries_most)
    (number_only 20 (set_timer m 1 (expiries m + 1)) [])
    (number_only 21 (set_timer (turned when_given_up entry_count m) 0 0) [])

unfoldable pub expiry_checks : ℕ → List ℕ → Checks
expiry_checks p m = check 1 (sound_in p m) (check 8 (waiting m) passed)

unfoldable pub expiry : ℕ → List ℕ → Outcome
expiry p m = call (expiry_checks p m) (expired m) m []

-- ---- make it fresh (RULES 6.4)

unfoldable pub make_fresh : List ℕ → Outcome
make_fresh m = call (check 1 (eqb (length m) memory_length) passed) (number_only 0 fresh []) m []
