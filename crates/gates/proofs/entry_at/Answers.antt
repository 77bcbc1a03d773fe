-- `gates::entry_at` meets its contract: what the entries from here on answer is what all of them answer.
use Prim.Native.Nat.{ℕ, suc, ◌+◌, ◌-◌, ◌*◌, ◌/◌, ◌<◌}
use native.Mathlib.Omega.{arith}
use mathlib.Core.Path.{◌≡◌, sym, ◌∙◌}
use lib.ListN.{length}
use Rattle.gates.specs.Answers.{told}
use Rattle.gates.proofs.Entries.{at_last, not_ended, ended}
use Rattle.gates.proofs.entry_at.Goals as goal

-- one entry fewer is left
turn : (n k : ℕ) → k < n → n - k ≡ suc (n - (k + 1))
turn n k h = omega arith

pub returns-then-time-end : goal.returns-then-time-end
unfolding told
returns-then-time-end c =
    let l = c.loop-k in
    let e = rw (turn _ l.k c.loop-k-test.true) at l.invariant.1 in
    sym (not_ended c.args.list.now (7 * l.k) l.k l.end c.args.time c.args.cycle _ c.get32-end.ensures.0 _ c.if-time-end.true) ∙ e

pub loop-k-preserved : goal.loop-k-preserved
loop-k-preserved c =
    let l = c.loop-k in
    let e = rw (turn _ l.k c.loop-k-test.true) at l.invariant.1 in
    let next : 7 * (l.k + 1) ≡ 7 * l.k + 7 = omega arith in (
      omega (arith, l.invariant.0, c.get32-end.ensures.1),
      rw next (sym (ended c.args.list.now (7 * l.k) l.k l.end c.args.time c.args.cycle _ c.get32-end.ensures.0 _ c.if-time-end.false) ∙ e),
    )

pub returns : goal.returns
unfolding told
returns c =
    let l = c.loop-k in
    let none : length c.args.list.now / 7 - 1 - l.k ≡ 0 = omega (arith, c.loop-k-test.false) in
    let all : l.k ≡ length c.args.list.now / 7 - 1 = omega (arith, l.auto.k-end, c.loop-k-test.false) in
    sym (at_last c.args.list.now (7 * (length c.args.list.now / 7 - 1)) _ l.end c.args.time c.args.cycle) ∙ (rw (none, all) at l.invariant.1)
