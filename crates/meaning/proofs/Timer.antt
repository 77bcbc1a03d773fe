-- The timer: building starts waiting and puts what it reports in flight, an acknowledgement and the fifth expiry end waiting and leave nothing in flight, expiries are counted.
use Prim.Native.Nat.{ℕ, ◌+◌, ◌≤◌, ◌<◌}
use native.Mathlib.Omega.{arith}
use mathlib.Core.Path.{◌≡◌, ◌∙◌}
use mathlib.Core.Bool.{Bool, true, false}
use mathlib.Core.List.{List, [], ◌∷◌}
use lib.ListN.{length}
use borrow.Author.Tests.{le-leb}
use Rattle.meaning.specs.Octets.{every, implies, nonempty}
use Rattle.meaning.specs.Checks.{first_failed, when_passed}
use Rattle.meaning.specs.Table.{entry_count}
use Rattle.meaning.specs.Memory.{waiting, expiries, set_timer, present, body, subscribed, pending, in_flight, sound}
use Rattle.meaning.specs.Profile.{sound_in}
use Rattle.meaning.specs.Calls.{done, number_only, call, is_command, is_acknowledgement, handled, acknowledged, fits, message_checks, message, reports, notification, Moment, when_sent, when_acknowledged, when_given_up, pending_after, in_flight_after, turned, build_checks, build, expiry_checks, expiry}
use Rattle.meaning.proofs.Tests.{first-passed}
use Rattle.meaning.proofs.Places.{timer-set_timer, cell-set_timer}
use Rattle.meaning.proofs.Profiles.{in_sound}
use Rattle.meaning.proofs.Checked.{call-done, call-passed}
use Rattle.meaning.proofs.Sound.{Sound, opened, present-set_timer, body-set_timer}
use Rattle.meaning.proofs.Kept.{idled, waits_sound, waits_now, expired_again, expired_last}
use Rattle.meaning.proofs.Turned.{SameMarks, cell_marks, turned_to}

-- what the timer says
pub record Timer (m : List ℕ) (w : Bool) (n : ℕ) : Type 0 where
  pub waits : waiting m ≡ w
  pub count : expiries m ≡ n

timer_waits : (m : List ℕ) (n : ℕ) → Sound m → Timer (set_timer m 1 n) true n
unfolding waiting expiries
timer_waits m n S = record { waits = rw (timer-set_timer m 1 n S.long); count = rw (timer-set_timer m 1 n S.long) }

idled_timer : (t : Moment) (m : List ℕ) → sound m ≡ true → waiting m ≡ true → Timer (idled t m) false 0
unfolding waiting expiries
idled_timer t m s w =
    let c = turned t entry_count m in
    let e = timer-set_timer c 0 0 (opened c (turned_to t entry_count m (omega arith) s w).is_sound).long in
    record { waits = rw e; count = rw e }

-- ---- an acknowledgement while waiting (RULES 14.11)

pub acknowledged_idle : (p : ℕ) (m room : List ℕ) → sound_in p m ≡ true → waiting m ≡ true → 1 ≤ length room
    → message p m (4 ∷ []) room ≡ done (5 ∷ []) (idled when_acknowledged m) room
unfolding message call when_passed message_checks first_failed handled acknowledged is_command is_acknowledgement implies fits every
acknowledged_idle p m room s w h = simp (s, w, le-leb 1 (length room) h)

pub acknowledged-timer : (p : ℕ) (m room : List ℕ) → sound_in p m ≡ true → waiting m ≡ true → 1 ≤ length room → Timer (message p m (4 ∷ []) room).memory false 0
acknowledged-timer p m room s w h = rw (acknowledged_idle p m room s w h) (idled_timer when_acknowledged m (in_sound p m s) w)

-- ---- expiries (RULES 14.8, 14.9)

pub expiry_again : (p : ℕ) (m : List ℕ) → sound_in p m ≡ true → waiting m ≡ true → expiries m < 4 → expiry p m ≡ number_only 20 (set_timer m 1 (expiries m + 1)) []
unfolding expiry call when_passed expiry_checks first_failed
expiry_again p m s w h = simp (s, w) (expired_again m h)

pub expiry_given_up : (p : ℕ) (m : List ℕ) → sound_in p m ≡ true → waiting m ≡ true → 4 ≤ expiries m → expiry p m ≡ number_only 21 (idled when_given_up m) []
unfolding expiry call when_passed expiry_checks first_failed
expiry_given_up p m s w h = simp (s, w) (expired_last m h)

pub again_timer : (p : ℕ) (m : List ℕ) → sound_in p m ≡ true → waiting m ≡ true → expiries m < 4 → Timer (expiry p m).memory true (expiries m + 1)
again_timer p m s w h = rw (expiry_again p m s w h) (timer_waits m (expiries m + 1) (opened m (in_sound p m s)))

pub given_up_timer : (p : ℕ) (m : List ℕ) → sound_in p m ≡ true → waiting m ≡ true → 4 ≤ expiries m → Timer (expiry p m).memory false 0
given_up_timer p m s w h = rw (expiry_given_up p m s w h) (idled_timer when_given_up m (in_sound p m s) w)

-- ---- building (RULES 14.6, 14.7)

pub build_does : (p : ℕ) (m room : List ℕ) → sound_in p m ≡ true → 1600 ≤ length room → waiting m ≡ false → nonempty (reports p m entry_count) ≡ true
    → build p m room ≡ done (notification p m) (turned when_sent entry_count (set_timer m 1 0)) room
unfolding build call when_passed build_checks first_failed
build_does p m room s h w n = simp (s, le-leb 1600 (length room) h, w, n)

-- what a notification that was built leaves: waiting, no expiry yet, in flight what was pending and nothing pending, every subscription, presence and value
pub record Built (m m' : List ℕ) : Type 0 where
  pub timer : Timer m' true 0
  pub nothing_pending : (j : ℕ) → j < entry_count → pending m' j ≡ false
  pub now_in_flight : (j : ℕ) → j < entry_count → in_flight m' j ≡ pending m j
  pub subscriptions : (j : ℕ) → j < entry_count → subscribed m' j ≡ subscribed m j
  pub presences : (j : ℕ) → j < entry_count → present m' j ≡ present m j
  pub values : (j : ℕ) → j < entry_count → body m' j ≡ body m j

built : (m : List ℕ) → sound m ≡ true → Built m (turned when_sent entry_count (set_timer m 1 0))
unfolding waiting expiries pending_after in_flight_after
built m s =
    let w = set_timer m 1 0 in
    let S = opened m s in
    let T = turned_to when_sent entry_count w (omega arith) (waits_sound m 0 s (omega arith)) (waits_now m 0 S) in
    let e = T.same_timer ∙ timer-set_timer m 1 0 S.long in
    let f : (j : ℕ) → j < entry_count → SameMarks m w j = λ j hj. cell_marks m w j (cell-set_timer m 1 0 S.long j hj) in
    record {
      timer = record { waits = rw e; count = rw e };
      nothing_pending = λ j hj. (T.marks j hj).pendency;
      now_in_flight = λ j hj. (T.marks j hj).flight ∙ (f j hj).pendency;
      subscriptions = λ j hj. (T.marks j hj).subscription ∙ (f j hj).subscription;
      presences = λ j hj. T.presences j hj ∙ present-set_timer m 1 0 S j hj;
      values = λ j hj. T.values j hj ∙ body-set_timer m 1 0 S j hj;
    }

pub build_leaves : (p : ℕ) (m room : List ℕ) → (build p m room).number ≡ 0 → Built m (build p m room).memory
unfolding build build_checks
build_leaves p m room e =
    let f = call-passed (build_checks p m (length room)) _ m room e in
    rw (call-done (build_checks p m (length room)) _ m room f) (built m (in_sound p m (first-passed 0 _ _ f).0))
