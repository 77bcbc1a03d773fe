-- Codes: which are known, how long their bodies are, what each does, and which call it is.
use Prim.Native.Nat.{ℕ, zero, suc, ◌+◌, ◌≤◌, ◌<◌}
use native.Mathlib.Omega.{arith}
use mathlib.Core.Path.{◌≡◌, refl, sym}
use mathlib.Core.Logic.{◌⊎◌, inl, inr}
use mathlib.Core.Bool.{Bool, true, false}
use mathlib.Core.List.{List, [], ◌∷◌}
use lib.ListN.{length, drop, get_or-eq_default}
use lib.Dec.{eqb, leb}
use borrow.Author.Tests.{leb-true, eqb-true}
use Rattle.meaning.specs.Octets.{at16}
use Rattle.meaning.specs.Delay.{delay}
use Rattle.meaning.specs.Calls.{Outcome}
use Rattle.meaning.specs.FormB.{make_fresh, message, local_value, build, expiry, gates}
use Rattle.meaning.proofs.Refused.{RoomAfter}
use Rattle.meaning.proofs.Sendings.{take_message, take_value, build_in, take_expiry}
use Rattle.meaning.proofs.Formed.{gives_lent, room_of, lent-room, lent-position, fresh-room, fresh_nowhere}
use Rattle.endpoint.specs.Outcomes.{Gives}
use Rattle.endpoint.specs.Outcomes as answers
use Rattle.text.specs.Lines.{octets_line, lent_line}
use Rattle.std.specs.Prelude.{slice_get}
use Rattle.std.specs.Option.{unwrap_or}
use Rattle.std.specs.Bool.{then_some}
use Rattle.script.specs.Takes.{call_code, shown_code, move_code, code_of, Reads}
use Rattle.script.specs.declared.Instruction.{Instruction}
use Rattle.script.specs.declared.Call as calls
use Rattle.script.specs.declared.Call.TheVariants.{Fresh, Message, LocalValue, Build, Expiry, MessageInFull}
use Rattle.script.specs.declared.Shown as showings
use Rattle.script.specs.declared.Shown.TheVariants.{Memory, Room, Delay, Gates}
use Rattle.script.specs.declared.Move as moves
use Rattle.script.specs.declared.Move.TheVariants.{Forward, Back}
use Rattle.script.specs.Instructions.{body_right, anew, nanoseconds, instant, gates_line, printed, call_of, room_for, profile_asked, alone, called, answered, moved_by, effect}

-- ---- bodies

-- what a code and the test of its body's length read
pub reads : (code n : ℕ) (i : Instruction) (b : Bool) → code_of i ≡ code → b ≡ body_right code n → Reads code n (then_some b i)
reads code n i true e f = (e, sym f)
reads code n i false e f = sym f

unknown : (code n : ℕ) → 13 ≤ code → body_right code n ≡ false
unfolding body_right
unknown code n h =
    let tests : List Bool = leb n 1 ∷ leb 2 n ∷ leb 2 n ∷ eqb n 2 ∷ eqb n 0 ∷ leb n 2200 ∷ eqb n 0 ∷ eqb n 0 ∷ eqb n 8 ∷ leb 2 n ∷ eqb n 8 ∷ eqb n 2 ∷ eqb n 2 ∷ [] in
    get_or-eq_default tests false h

beyond : (k code : ℕ) → k ≤ code → (code ≡ k → ⊥) → k + 1 ≤ code
beyond k code h f = omega arith

-- a code that is none of the thirteen
pub other : (code n : ℕ) → ((((((((((((Unit {0} × (code ≡ 0 → ⊥)) × (code ≡ 1 → ⊥)) × (code ≡ 2 → ⊥)) × (code ≡ 3 → ⊥)) × (code ≡ 4 → ⊥)) × (code ≡ 5 → ⊥)) × (code ≡ 6 → ⊥)) × (code ≡ 7 → ⊥)) × (code ≡ 8 → ⊥)) × (code ≡ 9 → ⊥)) × (code ≡ 10 → ⊥)) × (code ≡ 11 → ⊥)) × (code ≡ 12 → ⊥) → body_right code n ≡ false
other code n r =
    let h0 : 0 ≤ code = omega arith in
    let h1 = beyond 0 code h0 r.0.0.0.0.0.0.0.0.0.0.0.0.1 in
    let h2 = beyond 1 code h1 r.0.0.0.0.0.0.0.0.0.0.0.1 in
    let h3 = beyond 2 code h2 r.0.0.0.0.0.0.0.0.0.0.1 in
    let h4 = beyond 3 code h3 r.0.0.0.0.0.0.0.0.0.1 in
    let h5 = beyond 4 code h4 r.0.0.0.0.0.0.0.0.1 in
    let h6 = beyond 5 code h5 r.0.0.0.0.0.0.0.1 in
    let h7 = beyond 6 code h6 r.0.0.0.0.0.0.1 in
    let h8 = beyond 7 code h7 r.0.0.0.0.0.1 in
    let h9 = beyond 8 code h8 r.0.0.0.0.1 in
    let h10 = beyond 9 code h9 r.0.0.0.1 in
    let h11 = beyond 10 code h10 r.0.0.1 in
    let h12 = beyond 11 code h11 r.0.1 in
    let h13 = beyond 12 code h12 r.1 in
    unknown code n h13

-- ---- the profile that memory is made fresh in

pub asked_first : (body : List ℕ) → unwrap_or (slice_get body 0) 2 ≡ profile_asked body
unfolding profile_asked
asked_first [] = refl
asked_first (q ∷ rest) = refl

-- ---- what the length of a body says

module _ {made : calls.Call} {n : ℕ} (r : body_right (call_code made) n ≡ true) where
  pub message-body : (made ≡ Message) ⊎ (made ≡ MessageInFull) → 2 ≤ n
  unfolding body_right
  message-body (inl e) = leb-true 2 n (rw e at r)
  message-body (inr e) = leb-true 2 n (rw e at r)

  pub local_body : made ≡ LocalValue → 2 ≤ n
  unfolding body_right
  local_body e = leb-true 2 n (rw e at r)

  -- an instruction that asks for a room says how long
  pub room-body : (made ≡ Message) ⊎ (made ≡ MessageInFull) ⊎ (made ≡ Build) → 2 ≤ n
  unfolding body_right
  room-body (inl e) = leb-true 2 n (rw e at r)
  room-body (inr (inl e)) = leb-true 2 n (rw e at r)
  room-body (inr (inr e)) = omega (arith, eqb-true n 2 (rw e at r))

module _ {shown : showings.Shown} {n : ℕ} (r : body_right (shown_code shown) n ≡ true) where
  pub delay-body : shown ≡ Delay → n ≡ 8
  unfolding body_right
  delay-body e = eqb-true n 8 (rw e at r)

  pub gates-body : shown ≡ Gates → n ≡ 8
  unfolding body_right
  gates-body e = eqb-true n 8 (rw e at r)

pub lend_body : (n : ℕ) → body_right 5 n ≡ true → n ≤ 2200
unfolding body_right
lend_body n r = leb-true n 2200 r

-- a move says how long its room is
pub move_body : (way : moves.Move) (n : ℕ) → body_right (move_code way) n ≡ true → (n ≡ 2) × ((move_code way ≡ 11) ⊎ (move_code way ≡ 12))
unfolding body_right
move_body Forward n r = (eqb-true n 2 r, inl refl)
move_body Back n r = (eqb-true n 2 r, inr refl)

-- ---- the table's rows

pub lend_row : (body m room : List ℕ) → effect 5 body m room ≡ printed (lent_line (length body)) body room
unfolding effect
lend_row body m room = refl

module _ {shown : showings.Shown} (body m room : List ℕ) where
  pub memory-row : shown ≡ Memory → effect (shown_code shown) body m room ≡ printed (octets_line m) m room
  unfolding effect
  memory-row e = rw e

  pub room_row : shown ≡ Room → effect (shown_code shown) body m room ≡ printed (octets_line room) m room
  unfolding effect
  room_row e = rw e

  pub delay-row : shown ≡ Delay → effect (shown_code shown) body m room ≡ printed (octets_line (delay (nanoseconds body))) m room
  unfolding effect
  delay-row e = rw e

  pub gates-row : shown ≡ Gates → effect (shown_code shown) body m room ≡ printed (gates_line (gates m (instant body))) m room
  unfolding effect
  gates-row e = rw e

-- codes 11 and 12 are moves
pub move_row : (code : ℕ) (body m room : List ℕ) → (code ≡ 11) ⊎ (code ≡ 12) → effect code body m room ≡ answered code (moved_by code m (anew (at16 body 0)))
unfolding effect
move_row code body m room (inl e) = rw e
move_row code body m room (inr e) = rw e

-- a call's line and what it leaves
pub call-row : (made : calls.Call) (body m room : List ℕ)
    → let code = call_code made in
    effect code body m room ≡ answered code (called (call_of code) body m (room_for (call_of code) body room))
unfolding effect
call-row Fresh body m room = refl
call-row Message body m room = refl
call-row LocalValue body m room = refl
call-row Build body m room = refl
call-row Expiry body m room = refl
call-row MessageInFull body m room = refl

-- the code of a message that is told in full
pub nine : (made : calls.Call) → call_code made ≡ 9 → made ≡ MessageInFull
nine Fresh e = absurd (omega (arith, e))
nine Message e = absurd (omega (arith, e))
nine LocalValue e = absurd (omega (arith, e))
nine Build e = absurd (omega (arith, e))
nine Expiry e = absurd (omega (arith, e))
nine MessageInFull e = refl

-- ---- the calls

module _ {made : calls.Call} (body room : List ℕ) where
  pub room_made : (made ≡ Message) ⊎ (made ≡ MessageInFull) ⊎ (made ≡ Build) → room_for (call_of (call_code made)) body room ≡ anew (at16 body 0)
  unfolding room_for call_of
  room_made (inl e) = rw e
  room_made (inr (inl e)) = rw e
  room_made (inr (inr e)) = rw e

  pub room_last : (made ≡ Fresh) ⊎ (made ≡ LocalValue) ⊎ (made ≡ Expiry) → room_for (call_of (call_code made)) body room ≡ room
  unfolding room_for call_of
  room_last (inl e) = rw e
  room_last (inr (inl e)) = rw e
  room_last (inr (inr e)) = rw e

module _ {made : calls.Call} (body m room : List ℕ) where
  pub fresh-called : made ≡ Fresh → called (call_of (call_code made)) body m room ≡ alone (make_fresh m (profile_asked body)) room
  unfolding called call_of
  fresh-called e = rw e

  pub message-called : (made ≡ Message) ⊎ (made ≡ MessageInFull) → called (call_of (call_code made)) body m room ≡ message m (drop 2 body) room
  unfolding called call_of
  message-called (inl e) = rw e
  message-called (inr e) = rw e

  pub local_called : made ≡ LocalValue → called (call_of (call_code made)) body m room ≡ alone (local_value m (at16 body 0) (drop 2 body)) room
  unfolding called call_of
  local_called e = rw e

  pub build-called : made ≡ Build → called (call_of (call_code made)) body m room ≡ build m room
  unfolding called call_of
  build-called e = rw e

  pub expiry-called : made ≡ Expiry → called (call_of (call_code made)) body m room ≡ alone (expiry m) room
  unfolding called call_of
  expiry-called e = rw e

-- a call that is lent no room writes nothing, and leaves any room as it is

alone-room : (o : Outcome) (room : List ℕ) → RoomAfter o [] → RoomAfter (alone o room) room
alone-room o room a = at o.written a.in_room
  where
    at : (w : List ℕ) → length w ≤ 0 → RoomAfter (record { number = o.number; position = o.position; written = w; memory = o.memory; room = room }) room
    at [] h = record { in_room = omega arith; long = refl; after = refl }
    at (x ∷ w) h = absurd (omega arith)

pub called-room : (code : ℕ) (body m room : List ℕ) → RoomAfter (called code body m room) room
unfolding called gives_lent room_of
called-room zero body m room = alone-room (make_fresh m (profile_asked body)) room (fresh-room m (profile_asked body))
called-room (suc zero) body m room = lent-room m (take_message (drop 2 body) room)
called-room (suc (suc zero)) body m room = alone-room (local_value m (at16 body 0) (drop 2 body)) room (lent-room m (take_value (at16 body 0) (drop 2 body)))
called-room (suc (suc (suc zero))) body m room = lent-room m (build_in room)
called-room (suc (suc (suc (suc n)))) body m room = alone-room (expiry m) room (lent-room m take_expiry)

pub alone_gives : (o : Outcome) (room : List ℕ) {r : answers.Outcome} {m' : List ℕ} → Gives o r m' [] → Gives (alone o room) r m' room
alone_gives o room g = record { number = g.number; written = g.written; position = g.position; memory_is = g.memory_is; room_is = refl }

-- no position that a call tells has more than four digits
pub called-position : (code : ℕ) (body m room : List ℕ) → (called code body m room).position < 10000
unfolding called gives_lent
called-position zero body m room = omega (arith, fresh_nowhere m (profile_asked body))
called-position (suc zero) body m room = omega (arith, lent-position m (take_message (drop 2 body) room))
called-position (suc (suc zero)) body m room = omega (arith, lent-position m (take_value (at16 body 0) (drop 2 body)))
called-position (suc (suc (suc zero))) body m room = omega (arith, lent-position m (build_in room))
called-position (suc (suc (suc (suc n)))) body m room = omega (arith, lent-position m take_expiry)
