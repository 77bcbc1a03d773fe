-- `command::read` meets its contract.
use mathlib.Core.Path.{◌≡◌, sym, ap, ◌∙◌}
use mathlib.Core.Bool.{true, false}
use borrow.Author.Rules.{rules}
use Rattle.std.proofs.lemmas.Result.{err_from_is_err_and}
use Rattle.meaning.specs.Table.{place}
use Rattle.meaning.specs.Memory.{present}
use Rattle.meaning.specs.Profile.{lists}
use Rattle.wire.specs.Causes.{octet_of}
use Rattle.command.specs.declared.Answer.TheVariants.{Value, ReadError}
use Rattle.command.specs.Answers.{told, told_read}
use Rattle.command.proofs.Sets.{lists-place, place_listed, not_listed, read_unlisted, read-absent, read-value}
use Rattle.command.proofs.read.Goals as goal
use Rattle.command.proofs.read.Goals.{In_ok-k}

-- the place is that of the name, which is listed
module _ (c : In_ok-k) where
  at_place : (lists c.args.profile c.in_ok-k.k ≡ true) × (c.in_ok-k.k ≡ place c.args.name)
  at_place = place_listed _ _ _ (sym c.in_ok-k.ensures.ok_part ∙ c.listed_place.ensures)

  listed : lists c.args.profile (place c.args.name) ≡ true
  listed = rw at_place.1 at at_place.0

pub returns-in_err-k : goal.returns-in_err-k
unfolding told told_read octet_of
returns-in_err-k c =
    let a = c.args in
    let r = err_from_is_err_and c.from_residual.result c.from_residual.ensures.1 in
    let e = not_listed _ _ _ _ _ c.listed_place.ensures c.in_err-k.ensures.value in
    rw (r.1, r.2, e.1) (sym (ap told (read_unlisted a.profile a.m.now a.name e.0)))

pub has-requires : goal.has-requires
has-requires c = lists-place _ _ (at_place (goal.at.has-requires c).In_ok-k).0

pub returns-then-not-has : goal.returns-then-not-has
unfolding told told_read
returns-then-not-has c =
    let a = c.args in
    let places = goal.at.returns-then-not-has c in
    let e = at_place places.In_ok-k in
    let q : present a.m.now (place a.name) ≡ false = rw e.1 at (sym c.has.ensures ∙ c.if-not-has.true) in
    ap ReadError c.absent_cause.ensures ∙ sym (ap told (read-absent a.profile a.m.now a.name (listed places.In_ok-k) q))

pub overflow_cast-result : goal.overflow_cast-result
overflow_cast-result c =
    let h = lists-place _ _ (at_place (goal.at.overflow_cast-result c).In_ok-k).0 in
    search rules

pub returns : goal.returns
unfolding told told_read
returns c =
    let a = c.args in
    let places = goal.at.returns c in
    let e = at_place places.In_ok-k in
    let q : present a.m.now (place a.name) ≡ true = rw e.1 at (sym c.has.ensures ∙ c.if-not-has.false) in
    ap Value e.1 ∙ sym (ap told (read-value a.profile a.m.now a.name (listed places.In_ok-k) q))
