-- `capture::first` meets its contract.
use Prim.Native.Nat.{ℕ, ◌≤◌}
use native.Mathlib.Omega.{arith}
use mathlib.Core.Path.{◌≡◌, sym, ap, ◌∙◌}
use mathlib.Core.Bool.{false}
use borrow.Author.Tests.{eqb-true, eqb-false}
use lib.Dec.{eqb}
use Rattle.capture.specs.Handing.{of_opened}
use Rattle.capture.proofs.CutShort.{cut_short, taken}
use Rattle.capture.proofs.Openings.{first_empty, first_too_long, first_of_reply, first_of_notification, first_unknown}
use Rattle.capture.proofs.first.Goals as goal
use Rattle.capture.proofs.first.Goals.{in-2, in-3}

some-octets : (n : ℕ) → false ≡ eqb n 0 → 1 ≤ n
some-octets n e = let z = eqb-false n 0 (sym e) in omega (arith, z)

pub returns-then-is_empty : goal.returns-then-is_empty
returns-then-is_empty c = first_empty _ (omega (arith, eqb-true _ 0 (sym c.if-is_empty.ensures)))

pub returns-then-s-gt-REPLY_MOST : goal.returns-then-s-gt-REPLY_MOST
returns-then-s-gt-REPLY_MOST c = first_too_long _ (some-octets _ c.if-is_empty.ensures) c.if-s-gt-REPLY_MOST.true

pub returns-in_default : goal.returns-in_default
returns-in_default c = first_unknown _ (some-octets _ c.if-is_empty.ensures) c.if-s-gt-REPLY_MOST.false (λ e. omega arith) (λ e. omega arith)

pub returns-in_err-ok_or : goal.returns-in_err-ok_or
unfolding of_opened
returns-in_err-ok_or c =
    let h = some-octets _ c.if-is_empty.ensures in
    let m = c.if-s-gt-REPLY_MOST.false in
    let n = cut_short c.ok_or.ensures.value c.from_residual.ensures.1 c.in_err-ok_or.was in
    n.0 ∙ ap (of_opened _) n.1 ∙ elim c.match-s.branch [
      | in-2 w ↦ ap (of_opened _) (w.opened-is ∙ w.open_reply-opened.ensures) ∙ first_of_reply _ h m w.in-2.is
      | in-3 w ↦ ap (of_opened _) (w.opened-is ∙ w.open_notification-opened.ensures) ∙ first_of_notification _ h m w.in-3.is
    ]

pub returns : goal.returns
unfolding of_opened
returns c =
    let h = some-octets _ c.if-is_empty.ensures in
    let m = c.if-s-gt-REPLY_MOST.false in
    c.next.ensures ∙ ap (of_opened _) (taken c.ok_or.ensures.value c.in_ok-ok_or.was) ∙ elim c.match-s.branch [
      | in-2 w ↦ ap (of_opened _) (w.opened-is ∙ w.open_reply-opened.ensures) ∙ first_of_reply _ h m w.in-2.is
      | in-3 w ↦ ap (of_opened _) (w.opened-is ∙ w.open_notification-opened.ensures) ∙ first_of_notification _ h m w.in-3.is
    ]
