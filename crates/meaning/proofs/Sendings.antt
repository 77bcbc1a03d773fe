-- The five sendings of RULES 14.9: by a build and by four expiries, whatever other calls come between.
use Prim.Native.Nat.{ℕ, ◌+◌, ◌≤◌, ◌<◌}
use native.Mathlib.Omega.{arith}
use native.Mathlib.Decide.{dec_le}
use mathlib.Core.Path.{◌≡◌, refl, sym, ◌∙◌}
use mathlib.Core.Logic.{◌⊎◌, inl, inr}
use mathlib.Core.Bool.{Bool, true, false, ◌&&◌, ◌||◌, not, cond, false≢true}
use mathlib.Core.List.{List, [], ◌∷◌, ◌++◌}
use lib.ListN.{length}
use lib.Dec.{eqb}
use Rattle.meaning.specs.Octets.{nonempty, zeros}
use Rattle.meaning.specs.Table.{row_at, place}
use Rattle.meaning.specs.Memory.{timer, waiting, expiries, subscribed, pending, in_flight, flags, store, set_marks, sound, fresh}
use Rattle.meaning.specs.Profile.{listed, release18, sound_in}
use Rattle.meaning.specs.Operation.{Op, capabilities, read, set, subscribe, unsubscribe, selective_read, selective_subscribe, selective_unsubscribe, delete_entry}
use Rattle.meaning.specs.Step.{stored, set_memory, subscribe_memory, unsubscribe_memory, step, after}
use Rattle.meaning.specs.Calls.{Outcome, number_only, is_command, is_acknowledgement, carried_out, ops_of, message_checks, message, differs, local_memory, local_checks, local_value, build_checks, build, expiry, make_fresh}
use Rattle.meaning.proofs.All.{all}
use Rattle.meaning.proofs.Tests.{and_left, and_right, denied, first-passed}
use Rattle.meaning.proofs.Places.{listed-place, timer-put}
use Rattle.meaning.proofs.Bounded.{message_in, local_value_in, build_in_lem, expiry_in}
use Rattle.meaning.proofs.Profiles.{in_sound}
use Rattle.meaning.proofs.Checked.{call-memory, call-passed, set_either}
use Rattle.meaning.proofs.Sound.{opened}
use Rattle.meaning.proofs.Turned.{timer-set_marks}
use Rattle.meaning.proofs.Kept.{permits-most, stored-permitted, settable, step-sound, Local, local_opened, local_held}
use Rattle.meaning.proofs.Accepted.{message-passed, handled-command}
use Rattle.meaning.proofs.Numbers.{build_10, build_11}
use Rattle.meaning.proofs.Timer.{Timer, expiry_again, expiry_given_up, again_timer, given_up_timer, build_leaves}

-- ---- the statement

-- the five calls over one port's memory, with what each is given beside it; it is made fresh in the profile that it has
pub data Call : Type 0 where
  refresh : Call
  take_message : (s room : List ℕ) → Call
  take_value : (n : ℕ) (v : List ℕ) → Call
  build_in : (room : List ℕ) → Call
  take_expiry : Call

-- what each gives
unfoldable pub gives : (p : ℕ) → List ℕ → Call → Outcome
gives p m refresh = make_fresh m
gives p m (take_message s room) = message p m s room
gives p m (take_value n v) = local_value p m n v
gives p m (build_in room) = build p m room
gives p m take_expiry = expiry p m

-- the memory after some calls, each on the memory that those before it leave
unfoldable pub after_calls : (p : ℕ) → List ℕ → List Call → List ℕ
after_calls p m [] = m
after_calls p m (c ∷ cs) = after_calls p (gives p m c).memory cs

-- a notification is to be sent where a build is done, and again where an expiry answers 20
unfoldable pub sends : Call → ℕ → ℕ
sends refresh n = 0
sends (take_message s room) n = 0
sends (take_value k v) n = 0
sends (build_in room) n = cond (eqb n 0) 1 0
sends take_expiry n = cond (eqb n 20) 1 0

unfoldable pub sendings : (p : ℕ) → List ℕ → List Call → ℕ
sendings p m [] = 0
sendings p m (c ∷ cs) = sends c (gives p m c).number + sendings p (gives p m c).memory cs

-- expiries among some calls
unfoldable pub ticks : Call → ℕ
ticks refresh = 0
ticks (take_message s room) = 0
ticks (take_value n v) = 0
ticks (build_in room) = 0
ticks take_expiry = 1

unfoldable pub expiries_in : List Call → ℕ
expiries_in [] = 0
expiries_in (c ∷ cs) = ticks c + expiries_in cs

-- a message of type 04, or making fresh
unfoldable pub ends : Call → Bool
ends refresh = true
ends (take_message s room) = is_acknowledgement s
ends (take_value n v) = false
ends (build_in room) = false
ends take_expiry = false

-- some calls without such
unfoldable pub unacknowledged : List Call → Bool
unacknowledged [] = true
unacknowledged (c ∷ cs) = not (ends c) && unacknowledged cs

-- what calls answer while a notification waits: an expiry "send again", a build "room under 1,600" or "already waiting"
abbrev pub Meanwhile : Call → ℕ → Type 0
Meanwhile refresh n = Unit {0}
Meanwhile (take_message s room) n = Unit {0}
Meanwhile (take_value k v) n = Unit {0}
Meanwhile (build_in room) n = (n ≡ 11) ⊎ (n ≡ 10)
Meanwhile take_expiry n = n ≡ 20

abbrev pub EachMeanwhile : (p : ℕ) → List ℕ → List Call → Type 0
EachMeanwhile p m [] = Unit {0}
EachMeanwhile p m (c ∷ cs) = Meanwhile c (gives p m c).number × EachMeanwhile p (gives p m c).memory cs

-- sound memory in which a notification waits, after n expiries
pub record Waits (p : ℕ) (m : List ℕ) (n : ℕ) : Type 0 where
  pub is_sound : sound_in p m ≡ true
  pub timer : Timer m true n

-- ---- the timer's octets are left alone by every operation and every local value

set-timer : (p : ℕ) (m : List ℕ) (n : ℕ) (v : List ℕ) → sound m ≡ true → timer (set_memory p m n v) ≡ timer m
unfolding store
set-timer p m n v s =
    set_either p m n v (λ m'. timer m' ≡ timer m)
    (λ e.
    let t = settable p m n v e in
    let k = place n in
    let w = stored p m k v in
    timer-put m k (flags true (subscribed m k) (pending m k) (in_flight m k)) w (opened m s).long (listed-place p n t.is_listed)
    (permits-most (row_at k) w (stored-permitted p m k v t.allowed).0))
    refl

set_marks-timer : (p : ℕ) (m : List ℕ) (n : ℕ) (s q i : Bool) → sound m ≡ true → timer (cond (listed p n) (set_marks m (place n) s q i) m) ≡ timer m
set_marks-timer p m n s q i h = go (listed p n) refl
  where
    go : (b : Bool) → listed p n ≡ b → timer (cond b (set_marks m (place n) s q i) m) ≡ timer m
    go true e = timer-set_marks m (place n) s q i (opened m h) (listed-place p n e)
    go false e = refl

pub step-timer : (p : ℕ) (m : List ℕ) (o : Op) → sound m ≡ true → timer (step p m o) ≡ timer m
unfolding step subscribe_memory unsubscribe_memory
step-timer p m capabilities s = refl
step-timer p m (read n) s = refl
step-timer p m (set n v) s = set-timer p m n v s
step-timer p m (subscribe n) s = set_marks-timer p m n true (pending m (place n)) (in_flight m (place n)) s
step-timer p m (unsubscribe n) s = set_marks-timer p m n false false false s
step-timer p m (selective_read n v) s = refl
step-timer p m (selective_subscribe n v) s = refl
step-timer p m (selective_unsubscribe n v) s = refl
step-timer p m (delete_entry n v) s = refl

pub after-timer : (p : ℕ) (m : List ℕ) (os : List Op) → sound m ≡ true → timer (after p m os) ≡ timer m
unfolding after
after-timer p m [] s = refl
after-timer p m (o ∷ os) s = after-timer p (step p m o) os (step-sound p m o s) ∙ step-timer p m o s

abbrev SameTimer : List ℕ → List ℕ → Type 0
SameTimer m m' = timer m' ≡ timer m

-- so by every message that is not of type 04
pub message-timer : (p : ℕ) (m s room : List ℕ) → sound m ≡ true → is_acknowledgement s ≡ false → timer (message p m s room).memory ≡ timer m
unfolding message carried_out
message-timer p m s room h a =
    call-memory (SameTimer m) (message_checks p m s (length room)) _ m room refl
    (λ e. rw (handled-command p m s (command (is_command s) (message-passed p m s (length room) e).known)) (after-timer p m (ops_of p s) h))
  where
    command : (b : Bool) → (b || is_acknowledgement s) ≡ true → b ≡ true
    command true e = refl
    command false e = absurd (false≢true (sym a ∙ e))

local_timer : (m : List ℕ) (n : ℕ) (v : List ℕ) → sound m ≡ true → Local n v → timer (local_memory m (place n) v) ≡ timer m
unfolding local_memory
local_timer m n v s l =
    let k = place n in
    timer-put m k (flags (nonempty v) (subscribed m k) (pending m k || (subscribed m k && differs m k v)) (in_flight m k)) v (opened m s).long
    l.in_table
    (local_held (row_at k) v l.allowed).1

pub local_value-timer : (p : ℕ) (m : List ℕ) (n : ℕ) (v : List ℕ) → sound m ≡ true → timer (local_value p m n v).memory ≡ timer m
unfolding local_value local_checks
local_value-timer p m n v s =
    call-memory (SameTimer m) (local_checks p m n v) _ m [] refl
    (λ e. local_timer m n v s (local_opened n v (first-passed 11 _ _ (first-passed 0 _ _ e).1).0))

-- ---- one call while a notification waits

-- it still waits, and is sent again where the call is an expiry
record Passes (p : ℕ) (m : List ℕ) (n : ℕ) (c : Call) : Type 0 where
  waits : Waits p (gives p m c).memory (n + ticks c)
  sent : sends c (gives p m c).number ≡ ticks c
  meanwhile : Meanwhile c (gives p m c).number

-- memory with the same timer
same_waits : (p : ℕ) (m m' : List ℕ) (n : ℕ) → Waits p m n → sound_in p m' ≡ true → timer m' ≡ timer m → Waits p m' (n + 0)
unfolding waiting expiries
same_waits p m m' n w s e =
    record {
      is_sound = s;
      timer = record { waits = rw e w.timer.waits; count = rw e (w.timer.count ∙ (omega arith)) };
    }

-- a build is refused: too little room, or already waiting
pub waiting-build : (p : ℕ) (m room : List ℕ) (n : ℕ) → Waits p m n → (build p m room ≡ number_only 11 m room) ⊎ (build p m room ≡ number_only 10 m room)
waiting-build p m room n w = go (dec_le 1600 (length room))
  where
    go : Dec (1600 ≤ length room) → (build p m room ≡ number_only 11 m room) ⊎ (build p m room ≡ number_only 10 m room)
    go (yes h) = inr (build_10 p m room w.is_sound h w.timer.waits)
    go (no h) = inl (build_11 p m room w.is_sound (omega arith))

build_passes : (p : ℕ) (m room : List ℕ) (n : ℕ) → Waits p m n → Passes p m n (build_in room)
unfolding gives sends ticks
build_passes p m room n w = go (waiting-build p m room n w)
  where
    go : (build p m room ≡ number_only 11 m room) ⊎ (build p m room ≡ number_only 10 m room) → Passes p m n (build_in room)
    go (inl e) = record { waits = rw e (same_waits p m m n w w.is_sound refl); sent = rw e; meanwhile = inl (rw e) }
    go (inr e) = record { waits = rw e (same_waits p m m n w w.is_sound refl); sent = rw e; meanwhile = inr (rw e) }

expiry_passes : (p : ℕ) (m : List ℕ) (n : ℕ) → Waits p m n → n < 4 → Passes p m n take_expiry
unfolding gives sends ticks
expiry_passes p m n w h =
    let l : expiries m < 4 = rw w.timer.count h in
    let e = expiry_again p m w.is_sound w.timer.waits l in
    let k = again_timer p m w.is_sound w.timer.waits l in
    record {
      waits = record { is_sound = expiry_in p m w.is_sound; timer = rw (sym w.timer.count) k };
      sent = rw e;
      meanwhile = rw e;
    }

passes : (p : ℕ) (m : List ℕ) (n : ℕ) (c : Call) → Waits p m n → ends c ≡ false → n + ticks c ≤ 4 → Passes p m n c
unfolding gives sends ticks ends
passes p m n refresh w e h = absurd (false≢true (sym e))
passes p m n (take_message s room) w e h =
    record {
      waits = same_waits p m (message p m s room).memory n w (message_in p m s room w.is_sound) (message-timer p m s room (in_sound p m w.is_sound) e);
      sent = refl;
      meanwhile = tt;
    }
passes p m n (take_value k v) w e h =
    record {
      waits = same_waits p m (local_value p m k v).memory n w (local_value_in p m k v w.is_sound) (local_value-timer p m k v (in_sound p m w.is_sound));
      sent = refl;
      meanwhile = tt;
    }
passes p m n (build_in room) w e h = build_passes p m room n w
passes p m n take_expiry w e h = expiry_passes p m n w (omega arith)

-- ---- calls one after another

-- it still waits, and was sent as often as an expiry came
pub record PassesAll (p : ℕ) (m : List ℕ) (n : ℕ) (cs : List Call) : Type 0 where
  pub waits : Waits p (after_calls p m cs) (n + expiries_in cs)
  pub sent : sendings p m cs ≡ expiries_in cs
  pub meanwhile : EachMeanwhile p m cs

-- RULES 14.8, whatever other calls come between
pub waits_on : (p : ℕ) (m : List ℕ) (n : ℕ) (cs : List Call) → Waits p m n → unacknowledged cs ≡ true → n + expiries_in cs ≤ 4 → PassesAll p m n cs
unfolding after_calls sendings expiries_in unacknowledged
waits_on p m n [] w u h = record { waits = same_waits p m m n w w.is_sound refl; sent = refl; meanwhile = tt }
waits_on p m n (c ∷ cs) w u h =
    let t = passes p m n c w (denied (ends c) (and_left _ _ u)) (omega arith) in
    let q = waits_on p (gives p m c).memory (n + ticks c) cs t.waits (and_right (not (ends c)) _ u) (omega arith) in
    let e : n + ticks c + expiries_in cs ≡ n + (ticks c + expiries_in cs) = omega arith in
    record { waits = rw e at q.waits; sent = rw (t.sent, q.sent); meanwhile = (t.meanwhile, q.meanwhile) }

-- ---- a notification that is built and not acknowledged

-- a build that is done leaves a notification that waits
pub built_waits : (p : ℕ) (m room : List ℕ) → (build p m room).number ≡ 0 → Waits p (build p m room).memory 0
unfolding build build_checks
built_waits p m room e =
    let f = call-passed (build_checks p m (length room)) _ m room e in
    record { is_sound = build_in_lem p m room (first-passed 0 _ _ f).0; timer = (build_leaves p m room e).timer }

-- calls in two parts
after-append : (p : ℕ) (m : List ℕ) (cs ds : List Call) → after_calls p m (cs ++ ds) ≡ after_calls p (after_calls p m cs) ds
unfolding after_calls
after-append p m [] ds = refl
after-append p m (c ∷ cs) ds = after-append p (gives p m c).memory cs ds

sendings_append : (p : ℕ) (m : List ℕ) (cs ds : List Call) → sendings p m (cs ++ ds) ≡ sendings p m cs + sendings p (after_calls p m cs) ds
unfolding sendings after_calls
sendings_append p m [] ds = omega arith
sendings_append p m (c ∷ cs) ds = omega (arith, sendings_append p (gives p m c).memory cs ds)

-- built, sent again by four expiries among the calls, and given up by one more
pub record SentFive (p : ℕ) (m room : List ℕ) (cs : List Call) : Type 0 where
  pub sent : sendings p m (build_in room ∷ cs) ≡ 5
  pub meanwhile : EachMeanwhile p (build p m room).memory cs
  pub waits : Timer (after_calls p m (build_in room ∷ cs)) true 4
  pub given_up : (expiry p (after_calls p m (build_in room ∷ cs))).number ≡ 21
  pub idle : Timer (after_calls p m ((build_in room ∷ cs) ++ (take_expiry ∷ []))) false 0
  pub in_all : sendings p m ((build_in room ∷ cs) ++ (take_expiry ∷ [])) ≡ 5

-- RULES 14.9: so it is sent five times
pub sent_five_times : (p : ℕ) (m room : List ℕ) (cs : List Call) → (build p m room).number ≡ 0 → unacknowledged cs ≡ true → expiries_in cs ≡ 4 → SentFive p m room cs
unfolding after_calls sendings gives sends
sent_five_times p m room cs e u n =
    let b = (build p m room).memory in
    let q = waits_on p b 0 cs (built_waits p m room e) u (omega (arith, n)) in
    let l = after_calls p b cs in
    let four : 0 + expiries_in cs ≡ 4 = omega (arith, n) in
    let w : Waits p l 4 = rw four at q.waits in
    let g = expiry_given_up p l w.is_sound w.timer.waits (omega (arith, w.timer.count)) in
    let five : cond (eqb (build p m room).number 0) 1 0 + sendings p b cs ≡ 5 = rw (e, q.sent, n) in
    record {
      sent = five;
      meanwhile = q.meanwhile;
      waits = w.timer;
      given_up = rw g;
      idle = rw (after-append p b cs (take_expiry ∷ [])) (given_up_timer p l w.is_sound w.timer.waits (omega (arith, w.timer.count)));
      in_all = rw (sendings_append p b cs (take_expiry ∷ []), g) (omega (arith, five));
    }

-- such calls there are: from fresh memory Tick granularity is subscribed and set; the notification is built, and among the expiries
-- come another value, a build that finds it waiting and a read
unfoldable pub before : List Call
before = take_message (1 ∷ 0 ∷ 3 ∷ 4 ∷ 0 ∷ 8 ∷ []) (zeros 64) ∷ take_value 8 (0 ∷ 0 ∷ 0 ∷ 1 ∷ []) ∷ []

unfoldable pub between : List Call
between =
    take_expiry
    ∷ take_value 8 []
    ∷ take_expiry
    ∷ build_in (zeros 1600)
    ∷ take_expiry
    ∷ take_message (1 ∷ 0 ∷ 3 ∷ 2 ∷ 0 ∷ 8 ∷ []) (zeros 64)
    ∷ take_expiry
    ∷ []

pub such_calls : ((build release18 (after_calls release18 fresh before) (zeros 1600)).number ≡ 0) × (unacknowledged between ≡ true) × (expiries_in between ≡ 4)
unfolding all gives after_calls unacknowledged ends expiries_in ticks before between
such_calls = (refl, refl, refl)
