-- What comes of an entry's flags, by masks as the code has them: each is tried on the sixteen octets that flags may be.
use Prim.Native.Nat.{ℕ, ◌+◌, ◌*◌, ◌/◌, ◌%◌, ◌≤◌, ◌<◌}
use mathlib.Core.Path.{◌≡◌, refl, sym, ap, ◌∙◌}
use mathlib.Core.Bool.{Bool, true, cond}
use mathlib.Core.List.{List, [], ◌∷◌}
use lib.Dec.{eqb, ltb}
use borrow.Author.Tests.{eqb-true, lt-ltb, le-ltb}
use Rattle.meaning.specs.Octets.{octet, below, splice}
use Rattle.meaning.specs.Memory.{is_present, is_subscribed, is_pending, is_in_flight, subscribed, pending, in_flight, bit, flags, set_marks}
use Rattle.meaning.specs.Calls.{Moment, when_sent, when_acknowledged, when_given_up, pending_after, in_flight_after}
use Rattle.meaning.proofs.Tests.{below_at}
use Rattle.memory.proofs.Masks.{masks, masked, marks_set}
use Rattle.notification.specs.Moments.{flags_after}

-- ---- each mask

abbrev agrees : (ℕ → ℕ) → Moment → Bool
agrees h t = below 16 (λ f. eqb (h f) (flags_after t f))

agree_at : (h : ℕ → ℕ) (t : Moment) → agrees h t ≡ true → (f : ℕ) → f < 16 → h f ≡ flags_after t f
agree_at h t e f l = eqb-true _ _ (below_at 16 (λ x. eqb (h x) (flags_after t x)) e f l)

sent_agrees : agrees (λ f. f % 4 + f / 4 % 2 * 8) when_sent ≡ true
unfolding below flags_after flags bit pending_after in_flight_after is_present is_subscribed is_pending is_in_flight
sent_agrees = refl

pub sent : (f : ℕ) → f < 16 → f % 4 + f / 4 % 2 * 8 ≡ flags_after when_sent f
sent = agree_at (λ f. f % 4 + f / 4 % 2 * 8) when_sent sent_agrees

acknowledged_agrees : agrees (λ f. f % 8) when_acknowledged ≡ true
unfolding below flags_after flags bit pending_after in_flight_after is_present is_subscribed is_pending is_in_flight
acknowledged_agrees = refl

pub acknowledged : (f : ℕ) → f < 16 → f % 8 ≡ flags_after when_acknowledged f
acknowledged = agree_at (λ f. f % 8) when_acknowledged acknowledged_agrees

given_up_agrees : agrees (λ f. cond (ltb f 8) f (f % 4 + 4)) when_given_up ≡ true
unfolding below flags_after flags bit pending_after in_flight_after is_present is_subscribed is_pending is_in_flight
given_up_agrees = refl

given_up_lem : (f : ℕ) → f < 16 → cond (ltb f 8) f (f % 4 + 4) ≡ flags_after when_given_up f
given_up_lem = agree_at (λ f. cond (ltb f 8) f (f % 4 + 4)) when_given_up given_up_agrees

pub given_up_kept : (f : ℕ) → f < 16 → f < 8 → f ≡ flags_after when_given_up f
given_up_kept f l h = ap (λ (b : Bool). cond b f (f % 4 + 4)) (sym (lt-ltb f 8 h)) ∙ given_up_lem f l

pub given_up_turned : (f : ℕ) → f < 16 → 8 ≤ f → f % 4 + 4 ≡ flags_after when_given_up f
given_up_turned f l h = ap (λ (b : Bool). cond b f (f % 4 + 4)) (sym (le-ltb f 8 h)) ∙ given_up_lem f l

-- ---- an entry's flags replaced

turn_masks : (t : Moment) → masks (flags_after t) (λ p s q i. flags p s (pending_after t q i) (in_flight_after t q i)) ≡ true
unfolding below flags_after flags bit pending_after in_flight_after is_present is_subscribed is_pending is_in_flight
turn_masks when_sent = refl
turn_masks when_acknowledged = refl
turn_masks when_given_up = refl

pub entry_turned : (t : Moment) (m : List ℕ) (k : ℕ) {f g : ℕ} {m' : List ℕ} → f ≡ octet m (6 * k + 2) % 16 → g ≡ flags_after t f → m' ≡ splice m (6 * k + 2) (g ∷ [])
    → m' ≡ set_marks m k (subscribed m k) (pending_after t (pending m k) (in_flight m k)) (in_flight_after t (pending m k) (in_flight m k))
entry_turned t m k e h w =
    marks_set m k (subscribed m k) (pending_after t (pending m k) (in_flight m k)) (in_flight_after t (pending m k) (in_flight m k)) w
    (h ∙ ap (flags_after t) e ∙ masked (flags_after t) (λ p s q i. flags p s (pending_after t q i) (in_flight_after t q i)) (turn_masks t) m k)
