-- What is in flight, octet by octet: what a build, an acknowledgement and the fifth expiry leave of every octet of memory (RULES 14.6, 14.10, 14.11,
-- 15.26), and that nothing is in flight while idle (RULES 5.17).
use Prim.Native.Nat.{ℕ, ◌+◌, ◌*◌, ◌/◌, ◌%◌, ◌<◌}
use native.Mathlib.Omega.{arith}
use mathlib.Core.Path.{◌≡◌, refl, sym, ap, ◌∙◌}
use mathlib.Core.Logic.{◌≢◌}
use mathlib.Core.Bool.{Bool, true, false, ◌||◌, false≢true}
use mathlib.Core.List.{List, [], ◌∷◌}
use lib.ListN.{length}
use lib.Dec.{eqb}
use borrow.Author.Tests.{ltb-true, eqb-true}
use Rattle.meaning.specs.Octets.{octet, below}
use Rattle.meaning.specs.Table.{entry_count, row_at, by_port}
use Rattle.meaning.specs.Memory.{cell, timer, waiting, is_present, is_subscribed, is_pending, is_in_flight, present, subscribed, pending, in_flight, body, bit, flags, set_timer, expiries, sound}
use Rattle.meaning.specs.Calls.{Outcome, number_only, is_command, is_acknowledgement, message_checks, message, Moment, when_sent, when_acknowledged, when_given_up, pending_after, in_flight_after, turned, build_checks, build, expired, expiry_checks, expiry}
use Rattle.meaning.proofs.Lists.{part-octet}
use Rattle.meaning.proofs.Tests.{and_right, denied, not-true, implied, below_at, first-passed}
use Rattle.meaning.proofs.Moments.{sent_flags, acknowledged_flags, given_up_flags, matches, match_at, sent_matches, acknowledged_matches, given_up_matches}
use Rattle.meaning.proofs.Places.{timer-set_timer, set_timer-length, cell-set_timer}
use Rattle.meaning.proofs.Profiles.{in_sound}
use Rattle.meaning.proofs.Sound.{opened, entry_of, present-set_timer, body-set_timer}
use Rattle.meaning.proofs.Turned.{SameMarks, cell_marks, Turned, turned_to}
use Rattle.meaning.proofs.Checked.{call_either, call-done, call-passed}
use Rattle.meaning.proofs.Kept.{idled, none_acknowledged, none_given_up, handled_either, acknowledged_waits, waits_sound, waits_now, expired_either}
use Rattle.meaning.proofs.Refused.{timer_others, first-most}

-- ---- while idle

pub none_while_idle : (m : List ℕ) → sound m ≡ true → waiting m ≡ false → (k : ℕ) → k < entry_count → in_flight m k ≡ false
unfolding in_flight
none_while_idle m s w k hk =
    not-true (is_in_flight (cell m k))
    (λ e.
    let o = and_right (is_subscribed (cell m k)) _ (implied (is_in_flight (cell m k)) _ (entry_of m (opened m s) k hk).flight e) in
    false≢true (sym w ∙ and_right (by_port (row_at k).owner) _ o))

-- ---- an octet of flags and its flags

abbrev spells : ℕ → Bool
spells f = eqb (flags (eqb (f % 2) 1) (eqb (f / 2 % 2) 1) (eqb (f / 4 % 2) 1) (eqb (f / 8 % 2) 1)) f

all_spell : below 16 spells ≡ true
unfolding below flags bit
all_spell = refl

cell-flags : (m : List ℕ) (k : ℕ) → octet (cell m k) 2 ≡ octet m (6 * k + 2)
unfolding cell
cell-flags m k = part-octet m (6 * k) 6 2 (omega arith)

pub flags-octet : (m : List ℕ) → sound m ≡ true → (k : ℕ) → k < entry_count → octet m (6 * k + 2) ≡ flags (present m k) (subscribed m k) (pending m k) (in_flight m k)
unfolding present subscribed pending in_flight is_present is_subscribed is_pending is_in_flight
flags-octet m s k hk =
    let c = cell m k in
    sym (cell-flags m k) ∙ sym (eqb-true _ _ (below_at 16 spells all_spell (octet c 2) (ltb-true (octet c 2) 16 (entry_of m (opened m s) k hk).flagged)))

-- ---- every octet of memory

-- the octets of flags are what g makes of them, the timer's are w and n, and all others stay
pub record OctetsAfter (g : ℕ → ℕ) (w n : ℕ) (m m' : List ℕ) : Type 0 where
  pub long : length m' ≡ 2100
  pub state : octet m' 114 ≡ w
  pub count : octet m' 115 ≡ n
  pub flags : (k : ℕ) → k < 19 → octet m' (6 * k + 2) ≡ g (octet m (6 * k + 2))
  pub others : (i : ℕ) → i ≢ 114 → i ≢ 115 → ((k : ℕ) → k < 19 → i ≢ 6 * k + 2) → octet m' i ≡ octet m i

-- the timer's octets, by the timer
state-octet : (m : List ℕ) → octet m 114 ≡ octet (timer m) 0
unfolding timer
state-octet m = sym (part-octet m 114 2 0 (omega arith))

count-octet : (m : List ℕ) → octet m 115 ≡ octet (timer m) 1
unfolding timer
count-octet m = sym (part-octet m 114 2 1 (omega arith))

module _ (t : Moment) (g : ℕ → ℕ) (m : List ℕ) (s : sound m ≡ true) (w : waiting m ≡ true) (e : (k : ℕ) → k < entry_count → matches t g (in_flight m k) ≡ true) where
  T : Turned t entry_count m (turned t entry_count m)
  T = turned_to t entry_count m (omega arith) s w

  turned-flags : (k : ℕ) → k < entry_count → octet (turned t entry_count m) (6 * k + 2) ≡ g (octet m (6 * k + 2))
  turned-flags k hk =
      let h = T.marks k hk in
      flags-octet (turned t entry_count m) T.is_sound k hk
      ∙ rw (T.presences k hk, h.subscription, h.pendency, h.flight, flags-octet m s k hk)
      (match_at t g (in_flight m k) (e k hk) (present m k) (subscribed m k) (pending m k))

  -- the timer set behind it
  idled_octets : OctetsAfter g 0 0 m (idled t m)
  idled_octets =
      let c = turned t entry_count m in
      let hc = (opened c T.is_sound).long in
      let z = timer-set_timer c 0 0 hc in
      record {
        long = set_timer-length c 0 0 hc;
        state = state-octet (idled t m) ∙ ap (λ (l : List ℕ). octet l 0) z;
        count = count-octet (idled t m) ∙ ap (λ (l : List ℕ). octet l 1) z;
        flags = λ k hk. timer_others c 0 0 hc (6 * k + 2) (λ x. absurd (omega arith)) (λ x. absurd (omega arith)) ∙ turned-flags k hk;
        others = λ i a b f. timer_others c 0 0 hc i a b ∙ T.octets i f;
      }

-- ---- the calls

-- building, from idle memory
built_octets : (m : List ℕ) → sound m ≡ true → waiting m ≡ false → OctetsAfter sent_flags 1 0 m (turned when_sent entry_count (set_timer m 1 0))
built_octets m s idle =
    let hm = (opened m s).long in
    let v = set_timer m 1 0 in
    let sv = waits_sound m 0 s (omega arith) in
    let wv = waits_now m 0 (opened m s) in
    let none : (k : ℕ) → k < entry_count → in_flight v k ≡ false = λ k hk. (cell_marks m v k (cell-set_timer m 1 0 hm k hk)).flight ∙ none_while_idle m s idle k hk in
    let T = turned_to when_sent entry_count v (omega arith) sv wv in
    let z : timer (turned when_sent entry_count v) ≡ 1 ∷ 0 ∷ [] = T.same_timer ∙ timer-set_timer m 1 0 hm in
    let u = turned when_sent entry_count v in
    record {
      long = (opened u T.is_sound).long;
      state = state-octet u ∙ ap (λ (l : List ℕ). octet l 0) z;
      count = count-octet u ∙ ap (λ (l : List ℕ). octet l 1) z;
      flags = λ k hk.
          turned-flags when_sent sent_flags v sv wv (λ j hj. ap (matches when_sent sent_flags) (none j hj) ∙ sent_matches) k hk
          ∙ ap sent_flags (timer_others m 1 0 hm (6 * k + 2) (λ x. absurd (omega arith)) (λ x. absurd (omega arith)));
      others = λ i a b f. T.octets i f ∙ timer_others m 1 0 hm i a b;
    }

-- a build that is done was of sound memory, and idle
pub build_idle : (p : ℕ) (m room : List ℕ) → (build p m room).number ≡ 0 → (sound m ≡ true) × (waiting m ≡ false)
unfolding build build_checks
build_idle p m room e =
    let a = first-passed 0 _ _ (call-passed (build_checks p m (length room)) _ m room e) in
    let b = first-passed 9 _ _ (first-passed 10 _ _ a.1).1 in
    (in_sound p m a.0, denied (waiting m) b.0)

pub build-octets : (p : ℕ) (m room : List ℕ) → (build p m room).number ≡ 0 → OctetsAfter sent_flags 1 0 m (build p m room).memory
unfolding build
build-octets p m room e =
    let h = build_idle p m room e in
    rw (call-done (build_checks p m (length room)) _ m room (call-passed (build_checks p m (length room)) _ m room e)) (built_octets m h.0 h.1)

-- of an acknowledgement that is taken: the memory that it leaves
not_command : (s : List ℕ) → is_acknowledgement s ≡ true → is_command s ≡ false
unfolding is_acknowledgement is_command
not_command s a = rw (eqb-true (octet s 0) 4 a)

pub acknowledged-memory : (p : ℕ) (m s room : List ℕ) → is_acknowledgement s ≡ true → (message p m s room).number ≡ 0
    → ((message p m s room).memory ≡ idled when_acknowledged m) × (sound m ≡ true) × (waiting m ≡ true)
unfolding message message_checks
acknowledged-memory p m s room a e =
    let c = not_command s a in
    let cs = message_checks p m s (length room) in
    let f = call-passed cs _ m room e in (
      ap (λ (o : Outcome). o.memory) (call-done cs _ m room f)
          ∙ handled_either p (λ m'. m' ≡ idled when_acknowledged m) m s (λ d. absurd (false≢true (sym c ∙ d))) (λ d. refl),
      in_sound p m (first-passed 0 _ _ f).0,
      acknowledged_waits p m s room f c,
    )

pub acknowledgement-octets : (p : ℕ) (m s room : List ℕ) → is_acknowledgement s ≡ true → (message p m s room).number ≡ 0
    → OctetsAfter acknowledged_flags 0 0 m (message p m s room).memory
acknowledgement-octets p m s room a e =
    let h = acknowledged-memory p m s room a e in
    rw h.0 (idled_octets when_acknowledged acknowledged_flags m h.1 h.2 (λ k hk. acknowledged_matches (in_flight m k)))

-- an expiry that has the notification sent again leaves every mark
pub again_marks : (p : ℕ) (m : List ℕ) → (expiry p m).number ≡ 20 → (k : ℕ) → k < entry_count → SameMarks m (expiry p m).memory k
unfolding expiry expiry_checks
again_marks p m =
    call_either (λ o. o.number ≡ 20 → (k : ℕ) → k < entry_count → SameMarks m o.memory k) (expiry_checks p m) (expired m) m []
    (λ e.
    expired_either (λ o. o.number ≡ 20 → (k : ℕ) → k < entry_count → SameMarks m o.memory k) m
    (λ h z k hk. cell_marks m _ k (cell-set_timer m 1 (expiries m + 1) (opened m (in_sound p m (first-passed 0 _ _ e).0)).long k hk))
    (λ z. absurd (omega arith)))
    (λ f e h. absurd (omega (arith, e, first-most 8 (expiry_checks p m) (omega arith))))

-- of the expiry that gives up
pub given_up_memory : (p : ℕ) (m : List ℕ) → (expiry p m).number ≡ 21
    → (expiry p m ≡ number_only 21 (idled when_given_up m) []) × (sound m ≡ true) × (waiting m ≡ true)
unfolding expiry expiry_checks
given_up_memory p m =
    call_either (λ o. o.number ≡ 21 → (o ≡ number_only 21 (idled when_given_up m) []) × (sound m ≡ true) × (waiting m ≡ true)) (expiry_checks p m) (expired m) m []
    (λ e.
    let a = first-passed 0 _ _ e in
    let b = first-passed 7 _ _ a.1 in
    expired_either (λ o. o.number ≡ 21 → (o ≡ number_only 21 (idled when_given_up m) []) × (sound m ≡ true) × (waiting m ≡ true)) m
    (λ h z. absurd (omega arith))
    (λ z. (refl, in_sound p m a.0, b.0)))
    (λ f e h. absurd (omega (arith, e, first-most 8 (expiry_checks p m) (omega arith))))

pub given_up_octets : (p : ℕ) (m : List ℕ) → (expiry p m).number ≡ 21 → ((expiry p m).written ≡ []) × OctetsAfter given_up_flags 0 0 m (expiry p m).memory
given_up_octets p m e =
    let h = given_up_memory p m e in
    rw h.0 (refl, idled_octets when_given_up given_up_flags m h.1 h.2 (λ k hk. given_up_matches (in_flight m k)))

-- ---- by name: nothing is in flight any more, pending is what q says, and all else of every entry stays

pub record Landed (q : ℕ → Bool) (m m' : List ℕ) : Type 0 where
  pub none_in_flight : (k : ℕ) → k < entry_count → in_flight m' k ≡ false
  pub pendencies : (k : ℕ) → k < entry_count → pending m' k ≡ q k
  pub subscriptions : (k : ℕ) → k < entry_count → subscribed m' k ≡ subscribed m k
  pub presences : (k : ℕ) → k < entry_count → present m' k ≡ present m k
  pub values : (k : ℕ) → k < entry_count → body m' k ≡ body m k

idled_landed : (t : Moment) (q : ℕ → Bool) (m : List ℕ) → ((k : ℕ) → pending_after t (pending m k) (in_flight m k) ≡ q k) → ((a b : Bool) → in_flight_after t a b ≡ false)
    → sound m ≡ true → waiting m ≡ true → Landed q m (idled t m)
idled_landed t q m f none s w =
    let c = turned t entry_count m in
    let T = turned_to t entry_count m (omega arith) s w in
    let S = opened c T.is_sound in
    let same : (k : ℕ) → k < entry_count → SameMarks c (idled t m) k = λ k hk. cell_marks c (idled t m) k (cell-set_timer c 0 0 S.long k hk) in
    record {
      none_in_flight = λ k hk. (same k hk).flight ∙ (T.marks k hk).flight ∙ none _ _;
      pendencies = λ k hk. (same k hk).pendency ∙ (T.marks k hk).pendency ∙ f k;
      subscriptions = λ k hk. (same k hk).subscription ∙ (T.marks k hk).subscription;
      presences = λ k hk. present-set_timer c 0 0 S k hk ∙ T.presences k hk;
      values = λ k hk. body-set_timer c 0 0 S k hk ∙ T.values k hk;
    }

-- an acknowledgement: what changed while waiting stays pending
pub acknowledgement_leaves : (p : ℕ) (m s room : List ℕ) → is_acknowledgement s ≡ true → (message p m s room).number ≡ 0 → Landed (pending m) m (message p m s room).memory
unfolding pending_after
acknowledgement_leaves p m s room a e =
    let h = acknowledged-memory p m s room a e in
    rw h.0 (idled_landed when_acknowledged (pending m) m (λ k. refl) none_acknowledged h.1 h.2)

-- the fifth expiry: what was in flight is pending again
pub given_up_leaves : (p : ℕ) (m : List ℕ) → (expiry p m).number ≡ 21 → Landed (λ k. pending m k || in_flight m k) m (expiry p m).memory
unfolding pending_after
given_up_leaves p m e =
    let h = given_up_memory p m e in
    rw h.0 (idled_landed when_given_up (λ k. pending m k || in_flight m k) m (λ k. refl) none_given_up h.1 h.2)
