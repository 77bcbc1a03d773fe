-- What the port writes reads back, of whatever callers get from `message` and `build` by their contracts alone: the reader accepts what they find in
-- the room, and gives exactly the records that were answered or reported.
use Prim.Native.Nat.{ℕ}
use native.Mathlib.Omega.{arith}
use mathlib.Core.Path.{◌≡◌, refl, sym, ap, ◌∙◌}
use mathlib.Core.Bool.{true}
use mathlib.Core.List.{List, []}
use Rattle.meaning.specs.Table.{entry_count}
use Rattle.meaning.specs.Calls.{Outcome, is_command, ops_of, records}
use Rattle.meaning.specs.FormB.{profile_of, behind, message, build}
use Rattle.meaning.specs.Capture.{capturing, capture}
use Rattle.meaning.proofs.Lists.{Octets}
use Rattle.meaning.proofs.Notified.{pending_values, pending_errors}
use Rattle.meaning.proofs.ReadBack.{told, message_reads, build_reads}
use Rattle.meaning.proofs.Sendings.{take_message, build_in, gives}
use Rattle.meaning.proofs.Formed.{gives_lent, asks_form, not_1_formed}
use Rattle.endpoint.specs.Outcomes.{number_of}
use Rattle.endpoint.proofs.OneOutcome.{Seen, Allows, message-written, build-written}
use Rattle.endpoint.proofs.Reached.{reply_in}

-- a command that was answered with number 0
pub message_reads_reached : (b s room : List ℕ) (x : Seen) → Octets s → is_command s ≡ true → Allows (message b s room) x → number_of x.outcome ≡ 0
    → capture (reply_in x) ≡ record { number = 0; records = told (profile_of b) (records (profile_of b) (behind b) (ops_of (profile_of b) s)) }
unfolding gives gives_lent asks_form
message_reads_reached b s room x o c g n =
    let e = (not_1_formed b (take_message s room) refl (λ k. absurd (omega (arith, n, g.number, k)))).1 in
    ap capture ((message-written b s room g).1 ∙ ap (λ (r : Outcome). r.written) e)
    ∙ message_reads (profile_of b) (behind b) s room o c (sym (ap (λ (r : Outcome). r.number) e) ∙ sym g.number ∙ n)

-- a notification that was built
pub build_reads_reached : (b room : List ℕ) (x : Seen) → Allows (build b room) x → number_of x.outcome ≡ 0
    → capture (reply_in x)
    ≡ record { number = 0; records = capturing [] (pending_values (behind b) entry_count) (pending_errors (profile_of b) (behind b) entry_count) [] [] [] }
unfolding gives gives_lent asks_form
build_reads_reached b room x g n =
    let e = (not_1_formed b (build_in room) refl (λ k. absurd (omega (arith, n, g.number, k)))).1 in
    ap capture ((build-written b room g).1 ∙ ap (λ (r : Outcome). r.written) e)
    ∙ build_reads (profile_of b) (behind b) room (sym (ap (λ (r : Outcome). r.number) e) ∙ sym g.number ∙ n)
