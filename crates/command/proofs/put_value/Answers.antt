-- `command::put_value` meets its contract.
use mathlib.Core.Path.{◌≡◌, refl, sym, ◌∙◌}
use mathlib.Core.Bool.{true, false}
use Rattle.meaning.specs.Table.{row_at}
use Rattle.meaning.specs.Block.{permits}
use Rattle.meaning.specs.Profile.{release18}
use Rattle.meaning.specs.Step.{permitted}
use Rattle.meaning.proofs.Kept.{permits-most}
use Rattle.command.proofs.Sets.{permitted-commit, permitted-row, unspared}
use Rattle.command.proofs.put_value.Goals as goal

pub returns-then-k-eq-COMMIT : goal.returns-then-k-eq-COMMIT
returns-then-k-eq-COMMIT c =
    let a = c.args in
    let e = permitted-commit release18 a.m.now a.v.now a.k c.if-k-eq-COMMIT.true in
    rw (e.0, e.1) c.put_commit.ensures

pub returns-then-not-permits : goal.returns-then-not-permits
returns-then-not-permits c =
    let a = c.args in
    let e = permitted-row release18 a.m.now a.v.now a.v.now a.k c.if-k-eq-COMMIT.false (unspared a.k a.v.now) in
    let p : permitted release18 a.m.now a.k a.v.now ≡ false = e.0 ∙ sym c.permits.ensures ∙ c.if-not-permits.true in
    rw p (refl, refl)

pub store-requires : goal.store-requires
store-requires c =
    let p : permits (row_at c.args.k) c.args.v.now ≡ true = sym c.permits.ensures ∙ c.if-not-permits.false in
    (c.requires.1, permits-most _ _ p)

pub returns : goal.returns
returns c =
    let a = c.args in
    let e = permitted-row release18 a.m.now a.v.now a.v.now a.k c.if-k-eq-COMMIT.false (unspared a.k a.v.now) in
    let p : permitted release18 a.m.now a.k a.v.now ≡ true = e.0 ∙ sym c.permits.ensures ∙ c.if-not-permits.false in
    rw (p, e.1) (refl, c.store.ensures)
