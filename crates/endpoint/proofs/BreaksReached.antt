-- Where a command breaks, of whatever callers get from `message` by its contract alone: the position of an outcome with number 6 is the one at
-- which the operations break, and every other outcome has position 0.
use Prim.Native.Nat.{ℕ}
use native.Mathlib.Omega.{arith}
use mathlib.Core.Path.{◌≡◌, refl, sym, ap, ◌∙◌}
use mathlib.Core.Logic.{◌≢◌}
use mathlib.Core.List.{List}
use Rattle.meaning.specs.Calls.{Outcome, operations}
use Rattle.meaning.specs.FormB.{profile_of, behind, message}
use Rattle.meaning.proofs.Lists.{Octets}
use Rattle.meaning.proofs.Breaks.{Breaks}
use Rattle.meaning.proofs.Positions.{message_breaks}
use Rattle.meaning.proofs.Sendings.{take_message, gives}
use Rattle.meaning.proofs.Formed.{gives_lent, asks_form, lent_nowhere, not_1_formed}
use Rattle.endpoint.specs.Outcomes.{number_of, position_of}
use Rattle.endpoint.proofs.OneOutcome.{Seen, Allows}

pub message_breaks_reached : (b s room : List ℕ) (x : Seen) → Octets s → Allows (message b s room) x → number_of x.outcome ≡ 6
    → Breaks (profile_of b) (operations s) (position_of x.outcome)
unfolding gives gives_lent asks_form
message_breaks_reached b s room x o g n =
    let e = (not_1_formed b (take_message s room) refl (λ k. absurd (omega (arith, n, g.number, k)))).1 in
    rw (g.position, e) (message_breaks (profile_of b) (behind b) s room o (sym (ap (λ (r : Outcome). r.number) e) ∙ sym g.number ∙ n))

pub message_nowhere_reached : (b s room : List ℕ) (x : Seen) → Allows (message b s room) x → number_of x.outcome ≢ 6 → position_of x.outcome ≡ 0
unfolding gives_lent
message_nowhere_reached b s room x g n = g.position ∙ lent_nowhere b (take_message s room) (λ e. n (g.number ∙ e))
