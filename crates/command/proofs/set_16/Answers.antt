-- `command::set_16` meets its contract.
use native.Mathlib.Omega.{arith}
use mathlib.Core.Path.{◌≡◌, sym, ◌∙◌}
use mathlib.Core.Logic.{◌≢◌}
use mathlib.Core.Bool.{true}
use lib.ListN.{length}
use Rattle.std.proofs.lemmas.Result.{err_from_is_err_and}
use Rattle.meaning.specs.Octets.{part}
use Rattle.meaning.specs.Table.{place}
use Rattle.meaning.specs.Profile.{release16, lists, spared, sendable}
use Rattle.meaning.proofs.Lists.{length_part}
use Rattle.wire.specs.Causes.{octet_of}
use Rattle.command.specs.Answers.{failed_check}
use Rattle.command.proofs.Sets.{place_listed, not_listed, set_unlisted, set_over, set_unfit, as_memory, not_spared, pair_spared, long_unsendable, short-sendable}
use Rattle.command.proofs.set_16.Goals as goal
use Rattle.command.proofs.set_16.Goals.{In_ok-k, Else-v-gt-SHORT_MOST, Else-spared-eq0}

-- the place is that of the name, which is listed; the value has as many octets as are said
module _ (c : In_ok-k) where
  at_place : (lists release16 c.in_ok-k.k ≡ true) × (c.in_ok-k.k ≡ place c.args.v.name)
  at_place = place_listed _ _ _ (sym c.in_ok-k.ensures.ok_part ∙ c.listed_place.ensures)

  counted : let a = c.args in length (part a.list.now a.v.from a.v.size) ≡ a.v.size
  counted = length_part c.args.list.now c.args.v.from c.args.v.size c.requires.1

-- a record of the reply holds it
fits : (c : Else-v-gt-SHORT_MOST) → let a = c.args in sendable release16 (part a.list.now a.v.from a.v.size) ≡ true
fits c = short-sendable _ (omega (arith, length_part c.args.list.now c.args.v.from c.args.v.size c.requires.1, c.if-v-gt-SHORT_MOST.false))

-- octets of it are spared
some-spared : (c : Else-spared-eq0) → spared release16 c.in_ok-k.k ≢ 0
some-spared c e = c.if-spared-eq0.false (c.spared.ensures.0 ∙ e)

pub returns-in_err-k : goal.returns-in_err-k
unfolding failed_check octet_of
returns-in_err-k c =
    let a = c.args in
    let r = err_from_is_err_and c.from_residual.result c.from_residual.ensures.1 in
    let e = not_listed _ _ _ _ _ c.listed_place.ensures c.in_err-k.ensures.value in
    rw (r.1, r.2, e.1) (set_unlisted release16 a.m.now a.v.name _ e.0)

pub returns-then-v-gt-SHORT_MOST : goal.returns-then-v-gt-SHORT_MOST
unfolding failed_check octet_of
returns-then-v-gt-SHORT_MOST c =
    let places = goal.at.returns-then-v-gt-SHORT_MOST c in
    let a = c.args in
    let k = at_place places.In_ok-k in
    set_over release16 a.m.now a.v.name _ _ k.1 k.0 (long_unsendable _ (omega (arith, counted places.In_ok-k, c.if-v-gt-SHORT_MOST.true)))

pub returns-then-spared-eq0 : goal.returns-then-spared-eq0
returns-then-spared-eq0 c =
    let places = goal.at.returns-then-spared-eq0 c in
    let a = c.args in
    let k = at_place places.In_ok-k in
    let q = not_spared release16 _ (part a.list.now a.v.from a.v.size) (sym c.spared.ensures.0 ∙ c.if-spared-eq0.true) in
    as_memory a.m.now a.v.name _ _ _ k.1 k.0 (fits places.Else-v-gt-SHORT_MOST) q c.set_full.ensures

pub returns-then-v-ne2 : goal.returns-then-v-ne2
unfolding failed_check octet_of
returns-then-v-ne2 c =
    let places = goal.at.returns-then-v-ne2 c in
    let a = c.args in
    let k = at_place places.In_ok-k in
    set_unfit release16 a.m.now a.v.name _ _ k.1 k.0 (fits places.Else-v-gt-SHORT_MOST) (some-spared places.Else-spared-eq0) (rw (counted places.In_ok-k) c.if-v-ne2.true)

pub returns : goal.returns
returns c =
    let places = goal.at.returns c in
    let a = c.args in
    let k = at_place places.In_ok-k in
    let q = pair_spared release16 _ a.list.now a.v.from a.v.size (some-spared places.Else-spared-eq0) c.if-v-ne2.false c.requires.1 in
    as_memory a.m.now a.v.name _ _ _ k.1 k.0 (fits places.Else-v-gt-SHORT_MOST) q c.set_full-2.ensures
