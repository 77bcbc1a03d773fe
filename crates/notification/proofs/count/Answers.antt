-- `notification::count` meets its contract.
use Prim.Native.Nat.{ℕ}
use native.Mathlib.Omega.{arith}
use mathlib.Core.Path.{◌≡◌, ap, ◌∙◌}
use Rattle.meaning.specs.Octets.{flat}
use Rattle.meaning.specs.Profile.{release18}
use Rattle.meaning.specs.Reply.{gathered}
use Rattle.meaning.specs.Calls.{reports}
use Rattle.notification.specs.declared.Due.{Due}
use Rattle.notification.specs.Reports.{part_of, due_at, more, due_of}
use Rattle.notification.proofs.Reported.{due_next, few_before}
use Rattle.notification.proofs.count.Goals as goal

pub loop-k-init : goal.loop-k-init
unfolding reports due_of part_of gathered flat
loop-k-init c p =
    let e = c.default-d.ensures in
    λ i. record { values = e.0 i; octets = e.1.0 i; absent = e.1.1 i }

pub with_entry-d-requires : goal.with_entry-d-requires
with_entry-d-requires c =
    let l = c.loop-k in
    (c.loop-k-test.true, few_before release18 c.args.m.now l.k _ c.loop-k-test.true (l.invariant release18))

pub loop-k-preserved : goal.loop-k-preserved
loop-k-preserved c p =
    let l = c.loop-k in
    let m = c.args.m.now in
    c.with_entry-d.ensures p ∙ ap (λ (d : Due). more d (due_at p m l.k)) (l.invariant p) ∙ due_next p m l.k

pub returns : goal.returns
returns c p =
    let l = c.loop-k in
    let z : l.k ≡ 19 = omega (arith, l.auto.k-end, c.loop-k-test.false) in
    l.invariant p ∙ ap (λ (k : ℕ). due_of (reports p c.args.m.now k)) z
