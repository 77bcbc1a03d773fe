-- `tally::shown_length` meets its contract.
use native.Mathlib.Omega.{arith}
use mathlib.Core.Path.{◌≡◌, sym, ap, ◌∙◌}
use lib.ListN.{length}
use Rattle.meaning.specs.Step.{shown}
use Rattle.command.proofs.Shown.{shown-commit, shown-value, shown-short}
use Rattle.tally.proofs.shown_length.Goals as goal

pub returns-then-k-eq-COMMIT : goal.returns-then-k-eq-COMMIT
returns-then-k-eq-COMMIT c =
    let a = c.args in
    (sym (shown-commit _ a.m.now a.k c.if-k-eq-COMMIT.true), omega arith)

pub returns : goal.returns
returns c =
    let m = c.args.m.now in
    let e : length c.sent_body.result.now ≡ length (shown c.args.profile m c.args.k) = ap length (c.sent_body.ensures ∙ sym (shown-value _ m c.args.k c.if-k-eq-COMMIT.false)) in
    (e, omega (arith, e, shown-short c.args.profile m c.args.k c.requires))
