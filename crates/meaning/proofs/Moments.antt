-- What each moment makes of an octet of flags: when a notification is sent, acknowledged or given up (RULES 14.6, 14.11, 14.10). It is tried on all octets
-- that there are.
use Prim.Native.Nat.{ℕ, ◌+◌, ◌*◌, ◌/◌, ◌%◌}
use mathlib.Core.Path.{◌≡◌, refl}
use mathlib.Core.Bool.{Bool, true, false, ◌&&◌, cond}
use lib.Dec.{eqb, ltb}
use borrow.Author.Tests.{eqb-true}
use Rattle.meaning.specs.Memory.{bit, flags}
use Rattle.meaning.specs.Calls.{Moment, when_sent, when_acknowledged, when_given_up, pending_after, in_flight_after}
use Rattle.meaning.proofs.Tests.{and_left, and_right}

-- pending becomes in flight; in flight goes; in flight becomes pending, beside which it may have stood
unfoldable pub sent_flags : ℕ → ℕ
sent_flags f = f % 4 + f / 4 * 8

unfoldable pub acknowledged_flags : ℕ → ℕ
acknowledged_flags f = f % 8

unfoldable pub given_up_flags : ℕ → ℕ
given_up_flags f = cond (ltb f 8) f (f % 4 + 4)

-- ---- a moment does what a function of the octet does

-- a test of both truth values
abbrev pub both : (Bool → Bool) → Bool
both f = f true && f false

pub both_at : (f : Bool → Bool) → both f ≡ true → (b : Bool) → f b ≡ true
both_at f e true = and_left (f true) _ e
both_at f e false = and_right (f true) _ e

-- a moment makes of each octet of flags, in flight or not, what g makes of it
abbrev pub one_matches : Moment → (ℕ → ℕ) → Bool → Bool → Bool → Bool → Bool
one_matches t g i p s q = eqb (flags p s (pending_after t q i) (in_flight_after t q i)) (g (flags p s q i))

abbrev pub matches : Moment → (ℕ → ℕ) → Bool → Bool
matches t g i = both (λ p. both (λ s. both (λ q. one_matches t g i p s q)))

pub match_at : (t : Moment) (g : ℕ → ℕ) (i : Bool) → matches t g i ≡ true → (p s q : Bool)
    → flags p s (pending_after t q i) (in_flight_after t q i) ≡ g (flags p s q i)
match_at t g i e p s q =
    let f = both_at (λ b. both (λ c. both (λ d. one_matches t g i b c d))) e p in
    let h = both_at (λ c. both (λ d. one_matches t g i p c d)) f s in
    eqb-true _ _ (both_at (λ d. one_matches t g i p s d) h q)

pub sent_matches : matches when_sent sent_flags false ≡ true
unfolding flags bit pending_after in_flight_after sent_flags
sent_matches = refl

pub acknowledged_matches : (i : Bool) → matches when_acknowledged acknowledged_flags i ≡ true
unfolding flags bit pending_after in_flight_after acknowledged_flags
acknowledged_matches true = refl
acknowledged_matches false = refl

pub given_up_matches : (i : Bool) → matches when_given_up given_up_flags i ≡ true
unfolding flags bit pending_after in_flight_after given_up_flags
given_up_matches true = refl
given_up_matches false = refl
