-- The instructions of a script: the bodies that each code may have, the line that it prints, and the memory and the room that it leaves.
use Rattle.std.specs.Prelude.{ℕ, ◌+◌, ◌-◌, ◌*◌, Bool, false, cond, List, [], ◌∷◌, length, get_or, drop, replicate, eqb, leb, ltb, ℤ, pos, negsuc}
use Rattle.meaning.specs.Octets.{at16, at32}
use Rattle.meaning.specs.Delay.{delay}
use Rattle.meaning.specs.Profile.{release18}
use Rattle.meaning.specs.Calls.{Outcome}
use Rattle.meaning.specs.Gates.{Gates, refused, not_started, opens}
use Rattle.meaning.specs.FormB.{make_fresh, message, local_value, build, expiry, gates}
use Rattle.meaning.specs.Moves.{forward, back}
use Rattle.text.specs.Lines.{octets_line, line, lent_line, open_line}
use Rattle.answers.specs.Answers.{line_of, full_of}

-- the length of a body, by the instruction's code; no other code is known
unfoldable pub body_right : ℕ → ℕ → Bool
body_right code n =
    get_or
    (leb n 1  -- 00 make the lent memory fresh: a profile (1), or none
    ∷ leb 2 n  -- 01 message: room length (2), message
    ∷ leb 2 n  -- 02 local value: name (2), value
    ∷ eqb n 2  -- 03 build a notification: room length (2)
    ∷ eqb n 0  -- 04 timer expiry
    ∷ leb n 2200  -- 05 lend other memory: 0 to 2,200 octets
    ∷ eqb n 0  -- 06 show memory
    ∷ eqb n 0  -- 07 show the room that was made last
    ∷ eqb n 8  -- 08 delay conversion: nanoseconds (8)
    ∷ leb 2 n  -- 09 message, told in full: room length (2), message
    ∷ eqb n 8  -- 0A which gates are open: instant (8)
    ∷ eqb n 2  -- 0B the lent memory moved forward: room length (2)
    ∷ eqb n 2  -- 0C the lent memory moved back: room length (2)
    ∷ []) code false

-- a room made anew: at most 8,192 octets, each A5
unfoldable pub room_length : ℕ → ℕ
room_length asked = cond (ltb asked 8192) asked 8192

unfoldable pub anew : ℕ → List ℕ
anew asked = replicate (room_length asked) 0xA5

-- the number that eight octets spell, the high octet first
unfoldable pub nanoseconds : List ℕ → ℕ
nanoseconds s = at32 s 0 * 4294967296 + at32 s 4

-- the instant that they spell, in two's complement (RULES 17.20)
unfoldable pub instant : List ℕ → ℤ
instant s =
    let n = nanoseconds s in
    cond (ltb n 0x8000000000000000) (pos n) (negsuc (0xFFFFFFFFFFFFFFFF - n))

-- the line of the gates (RULES 17.21)
unfoldable pub gates_line : Gates → List ℕ
gates_line (refused n) = line n []
gates_line not_started = line 0 []
gates_line (opens s k d) = open_line s k d

-- what an instruction prints, and the memory and the room that it leaves
pub record Effect : Type 0 where
  pub line : List ℕ
  pub memory : List ℕ
  pub room : List ℕ

abbrev pub printed : List ℕ → List ℕ → List ℕ → Effect
printed line m room = record { line = line; memory = m; room = room }

-- ---- 00 to 04, and 09: the calls

-- the code of the call that an instruction makes: 09 makes that of 01
unfoldable pub call_of : ℕ → ℕ
call_of code = cond (eqb code 9) 1 code

-- the room of a call: made anew where its instruction asks for one, else that of the last
unfoldable pub room_for : ℕ → List ℕ → List ℕ → List ℕ
room_for code body room =
    let made = anew (at16 body 0) in
    get_or (room ∷ made ∷ room ∷ made ∷ []) code room

-- the profile that memory is made fresh in: that of Release 18 where none is named (RULES 17.2)
unfoldable pub profile_asked : List ℕ → ℕ
profile_asked [] = release18
profile_asked (q ∷ rest) = q

-- a call that is lent no room leaves it as it is
abbrev pub alone : Outcome → List ℕ → Outcome
alone o room = record { number = o.number; position = o.position; written = o.written; memory = o.memory; room = room }

-- the calls by code, over memory and such a room
unfoldable pub called : ℕ → List ℕ → List ℕ → List ℕ → Outcome
called code body m room =
    let sent = drop 2 body in
    get_or
    (alone (make_fresh m (profile_asked body)) room
    ∷ message m sent room
    ∷ alone (local_value m (at16 body 0) sent) room
    ∷ build m room
    ∷ [])
    code
    (alone (expiry m) room)

-- an outcome's line, by the instruction's code: 09 tells it in full
unfoldable pub told_line : ℕ → Outcome → List ℕ
told_line code o = cond (eqb code 9) (full_of o) (line_of o)

-- that line, and what the outcome leaves
abbrev pub answered : ℕ → Outcome → Effect
answered code o = printed (told_line code o) o.memory o.room

-- ---- 0B and 0C: the moves, into a room made anew

unfoldable pub moved_by : ℕ → List ℕ → List ℕ → Outcome
moved_by code m room = cond (eqb code 11) (forward m room) (back m room)

-- ---- every code, as above; one that is not known does nothing

unfoldable pub effect : ℕ → List ℕ → List ℕ → List ℕ → Effect
effect code body m room =
    let made = call_of code in
    let call = answered code (called made body m (room_for made body room)) in
    let move = answered code (moved_by code m (anew (at16 body 0))) in
    get_or
    (call
    ∷ call
    ∷ call
    ∷ call
    ∷ call
    ∷ printed (lent_line (length body)) body room
    ∷ printed (octets_line m) m room
    ∷ printed (octets_line room) m room
    ∷ printed (octets_line (delay (nanoseconds body))) m room
    ∷ call
    ∷ printed (gates_line (gates m (instant body))) m room
    ∷ move
    ∷ move
    ∷ [])
    code
    (printed [] m room)
