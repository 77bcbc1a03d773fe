-- One law for each way out of a call: what the definition gives there.
use Prim.Native.Nat.{ℕ, ◌+◌, ◌-◌, ◌≤◌, ◌<◌}
use native.Mathlib.Omega.{arith}
use mathlib.Core.Path.{◌≡◌, refl, sym, ap, ◌∙◌}
use mathlib.Core.Bool.{true, false, false≢true}
use mathlib.Core.Option.{Option, none, some}
use mathlib.Core.List.{List, [], ◌∷◌, ◌++◌}
use lib.ListN.{length, take, drop, set}
use borrow.Author.Tests.{le-leb, lt-leb}
use Rattle.meaning.specs.Octets.{nonempty, octet, at16, part, implies, every}
use Rattle.meaning.specs.Checks.{first_failed, when_passed}
use Rattle.meaning.specs.Table.{place, entry_count}
use Rattle.meaning.specs.Memory.{waiting, expiries, set_timer}
use Rattle.meaning.specs.Profile.{sound_in}
use Rattle.meaning.specs.Operation.{Op, parse, is_some, or_none, break_of}
use Rattle.meaning.specs.Step.{after}
use Rattle.meaning.specs.Reply.{complete}
use Rattle.meaning.specs.Calls.{when_acknowledged, local_permitted, local_memory, local_checks, local_value, reports, build_checks, build, done, number_only, call, is_command, is_acknowledgement, length_field, operations, ops_of, records, carried_out, acknowledged, handled, fits, message_checks, located, message}
use Rattle.meaning.specs.Calls as calls
use Rattle.meaning.proofs.Checked.{unlocated}
use Rattle.meaning.proofs.Kept.{idled}
use Rattle.meaning.proofs.Numbers.{Taken, Measured, length-right}
use Rattle.octets.proofs.Splices.{part_is}
use Rattle.std.specs.Prelude.{Ok, Err}
use Rattle.endpoint.specs.declared.Done.{Done}
use Rattle.endpoint.specs.declared.Done.TheVariants.{Written, SendAgain, GivenUp}
use Rattle.endpoint.specs.declared.Refusal.{Refusal}
use Rattle.endpoint.specs.declared.Refusal.TheVariants.{MemoryUnsound, MessageEmpty, MessageTooLong, TypeUnknown, LengthWrong, OperationMalformed, ReplyDoesNotFit, Idle, NothingPending, AlreadyWaiting, NotificationRoomTooSmall, NotPermitted, ProfileUnknown}
use Rattle.endpoint.specs.Outcomes.{Outcome, number_of, length_of, position_of, Gives, reply, command, acknowledgement}

-- a refusal: the number, and nothing changed
pub gives_number : (m room : List ℕ) (n : ℕ) (why : Refusal) {o : calls.Outcome} → o ≡ number_only n m room → number_of (Err why) ≡ n → position_of (Err why) ≡ 0 → Gives o (Err why) m room
gives_number m room n why e a p = rw e (record { number = a; written = refl; position = p; memory_is = refl; room_is = refl })

-- and where it broke
pub gives_broken : (m room : List ℕ) (p : ℕ) {o : calls.Outcome} → o ≡ located p (number_only 6 m room) → Gives o (Err (OperationMalformed p)) m room
gives_broken m room p e = rw e (record { number = refl; written = refl; position = refl; memory_is = refl; room_is = refl })

pub gives_done : (w m room : List ℕ) (n : ℕ) {o : calls.Outcome} {m' room' : List ℕ} → o ≡ done w m room → n ≡ length w → m' ≡ m → room' ≡ w ++ drop (length w) room
    → Gives o (Ok (Written n)) m' room'
gives_done w m room n e a b c = rw e (record { number = refl; written = a; position = refl; memory_is = b; room_is = c })

-- a call without a room: nothing written, and the memory that it leaves
pub gives_left : (m : List ℕ) (n : ℕ) (d : Done) {o : calls.Outcome} {m' : List ℕ} → o ≡ number_only n m [] → number_of (Ok d) ≡ n → length_of (Ok d) ≡ 0 → m' ≡ m → Gives o (Ok d) m' []
gives_left m n d e a b c = rw e (record { number = a; written = b; position = refl; memory_is = c; room_is = refl })

-- ---- a whole list of operations

module _ (p : ℕ) (m list room : List ℕ) where
  pub command-fits : fits (length room) (carried_out p m (or_none (parse p list))) ≡ true
      → command p m list room ≡ done (complete p (records p m (or_none (parse p list)))) (after p m (or_none (parse p list))) room
  unfolding command reply call first_failed when_passed carried_out
  command-fits e = rw e

  pub command_7 : fits (length room) (carried_out p m (or_none (parse p list))) ≡ false → command p m list room ≡ number_only 7 m room
  unfolding command reply call first_failed when_passed
  command_7 e = rw e

-- ---- an acknowledgement

module _ (m room : List ℕ) where
  pub acknowledgement_8 : waiting m ≡ false → acknowledgement m room ≡ number_only 8 m room
  unfolding acknowledgement call first_failed when_passed
  acknowledgement_8 e = rw e

  pub acknowledgement_7 : waiting m ≡ true → length room < 1 → acknowledgement m room ≡ number_only 7 m room
  unfolding acknowledgement call first_failed when_passed fits acknowledged every
  acknowledgement_7 e h = rw (e, lt-leb 1 (length room) h)

  pub acknowledgement-fits : waiting m ≡ true → 1 ≤ length room → acknowledgement m room ≡ done (5 ∷ []) (idled when_acknowledged m) room
  unfolding acknowledgement call first_failed when_passed fits acknowledged every
  acknowledgement-fits e h = rw (e, le-leb 1 (length room) h)

-- ---- a message, once the checks before have passed

-- the list of operations as it is lent on
pub list_is : (s : List ℕ) (n : ℕ) → n ≡ at16 s 1 → take (3 + n - 3) (drop 3 s) ≡ operations s
unfolding operations length_field
list_is s n e = part_is s 3 n ∙ ap (part s 3) e

-- a list that is not whole has no operations
pub not_whole : (p : Option (List Op)) → is_some p ≡ false → p ≡ none
not_whole none e = refl
not_whole (some os) e = absurd (false≢true (sym e))

module _ (p : ℕ) (m s room : List ℕ) where
  pub message-acknowledgement : Taken p m s → octet s 0 ≡ 4 → message p m s room ≡ acknowledgement m room
  unfolding message message_checks acknowledgement call first_failed is_command is_acknowledgement implies handled
  message-acknowledgement t e =
      simp (t.is_sound, le-leb 1 (length s) t.nonzero, le-leb (length s) 2048 t.short, e)
      (unlocated (break_of p (operations s)) true (waiting m) (fits (length room) (acknowledged m)) (acknowledged m).reply (acknowledged m).memory m room)

  pub message-command : Measured p m s → is_some (parse p (operations s)) ≡ true → message p m s room ≡ command p m (operations s) room
  unfolding message message_checks command reply call first_failed is_command is_acknowledgement implies handled ops_of
  message-command l w =
      let d = carried_out p m (or_none (parse p (operations s))) in
      simp (l.taken.is_sound, le-leb 1 (length s) l.taken.nonzero, le-leb (length s) 2048 l.taken.short, l.type, length-right p m s l, w)
      (unlocated (break_of p (operations s)) true true (fits (length room) d) d.reply d.memory m room)

-- ---- the other calls, where their checks have passed

pub local_does : (p : ℕ) (m : List ℕ) (n k : ℕ) (v : List ℕ) → k ≡ place n → sound_in p m ≡ true → local_permitted n v ≡ true → local_value p m n v ≡ number_only 0 (local_memory m k v) []
unfolding local_value local_checks call first_failed when_passed
local_does p m n k v e s q = rw (e, s, q)

-- one expiry more, with the count as the memory says it
pub counted_on : (m : List ℕ) {n : ℕ} {m' : List ℕ} → n ≡ expiries m → m' ≡ set_timer m 1 (n + 1) → m' ≡ set_timer m 1 (expiries m + 1)
counted_on m e f = f ∙ ap (λ (k : ℕ). set_timer m 1 (k + 1)) e

module _ (p : ℕ) (m room : List ℕ) (s : sound_in p m ≡ true) (h : 1600 ≤ length room) (w : waiting m ≡ false) where
  pub build_nothing : nonempty (reports p m entry_count) ≡ false → build p m room ≡ number_only 9 m room
  unfolding build build_checks call first_failed when_passed
  build_nothing n = simp (s, le-leb 1600 (length room) h, w, n)

-- ---- what is said of an outcome

pub nothing_written : (r : Outcome) → ((n : ℕ) → r ≡ Ok (Written n) → ⊥) → length_of r ≡ 0
nothing_written (Ok (Written n)) t = absurd (t n refl)
nothing_written (Ok SendAgain) t = refl
nothing_written (Ok GivenUp) t = refl
nothing_written (Err why) t = refl

pub nowhere : (r : Outcome) → ((p : ℕ) → r ≡ Err (OperationMalformed p) → ⊥) → position_of r ≡ 0
nowhere (Ok d) t = refl
nowhere (Err MemoryUnsound) t = refl
nowhere (Err MessageEmpty) t = refl
nowhere (Err MessageTooLong) t = refl
nowhere (Err TypeUnknown) t = refl
nowhere (Err LengthWrong) t = refl
nowhere (Err (OperationMalformed p)) t = absurd (t p refl)
nowhere (Err ReplyDoesNotFit) t = refl
nowhere (Err Idle) t = refl
nowhere (Err NothingPending) t = refl
nowhere (Err AlreadyWaiting) t = refl
nowhere (Err NotificationRoomTooSmall) t = refl
nowhere (Err NotPermitted) t = refl
nowhere (Err ProfileUnknown) t = refl

-- one octet written at the room's start
pub first-set : (room : List ℕ) (x : ℕ) → 1 ≤ length room → set room 0 x ≡ (x ∷ []) ++ drop 1 room
first-set [] x h = absurd (omega (arith, h))
first-set (y ∷ room) x h = refl
