-- `section::write_value` meets its contract.
use Prim.Native.Nat.{ℕ, ◌+◌, ◌≤◌}
use native.Mathlib.Omega.{arith}
use mathlib.Core.Path.{◌≡◌, refl, sym, ap, ◌∙◌}
use mathlib.Core.List.{List, ◌++◌}
use lib.ListN.{length}
use borrow.Author.Rules.{rules}
use Rattle.meaning.specs.Octets.{be16, splice}
use Rattle.meaning.specs.Table.{commit}
use Rattle.meaning.specs.Block.{sums}
use Rattle.meaning.specs.Memory.{body}
use Rattle.meaning.specs.Step.{shown}
use Rattle.meaning.specs.Reply.{held_octets}
use Rattle.octets.specs.Writing.{Wrote}
use Rattle.octets.proofs.Splices.{lent_back}
use Rattle.records.proofs.Lengths.{held-length}
use Rattle.records.proofs.Written.{held-written}
use Rattle.records.proofs.Pieces.{wrote_this}
use Rattle.command.proofs.Shown.{shown-value, shown-short, shown-sums}
use Rattle.schedule.specs.declared.Sums.{Sums}
use Rattle.section.specs.Knowing.{running_sums}
use Rattle.section.proofs.write_value.Goals as goal
use Rattle.section.proofs.write_value.Goals.{After-running_sums-s, After-sent_body-v, After-write_value_head-from}

-- the value at the place that is asked for is what a read shows
value-shown : (c : After-sent_body-v) → c.sent_body-v.result.now ≡ shown c.args.profile c.args.m.now c.args.k
value-shown c =
    let a = c.args in
    c.sent_body-v.ensures ∙ sym (shown-value _ a.m.now a.k c.if-k-ne-COMMIT.true)

spelt : (m : List ℕ) {s : Sums} → s ≡ running_sums m → be16 s.first ++ be16 s.second ≡ sums (body m commit)
unfolding sums running_sums
spelt m e = rw e

-- the sums are what a read of 8001 shows
module _ (c : After-running_sums-s) where
  abbrev asked : List ℕ
  asked = shown c.args.profile c.args.m.now c.args.k

  sums-shown : be16 c.running_sums-s.result.first ++ be16 c.running_sums-s.result.second ≡ asked
  sums-shown =
      let a = c.args in
      spelt a.m.now c.running_sums-s.ensures ∙ sym (shown-sums _ a.m.now commit refl) ∙ ap (shown a.profile a.m.now) (sym c.if-k-ne-COMMIT.false)

  four-shown : length asked ≡ 4
  unfolding be16
  four-shown = sym (ap length sums-shown)

  record-fits : c.args.at + 8 ≤ length c.args.out.now
  record-fits = omega (arith, c.requires.3, held-length (record { name = c.args.name; value = asked }), four-shown)

-- what stands before them, by the length of what is asked
module _ (c : After-write_value_head-from) where
  head-written : length (shown c.args.profile c.args.m.now c.args.k) ≡ 4
      → Wrote c.args.out.now c.args.at (be16 c.args.name ++ be16 (length (shown c.args.profile c.args.m.now c.args.k))) c.write_value_head-from.result c.write_value_head-from.new.out
  head-written e = rw e c.write_value_head-from.ensures

  behind-head : c.write_value_head-from.result ≡ c.args.at + 4
  unfolding be16
  behind-head = c.write_value_head-from.ensures.0

pub write_held-requires : goal.write_held-requires
write_held-requires c =
    let e = value-shown (goal.at.write_held-requires c).After-sent_body-v in
    (omega (arith, ap length e, c.requires.3, held-length (record { name = c.args.name; value = shown c.args.profile c.args.m.now c.args.k })), c.requires.1, omega (arith, ap length e, shown-short c.args.profile c.args.m.now c.args.k c.requires.0))

pub returns-then-k-ne-COMMIT : goal.returns-then-k-ne-COMMIT
returns-then-k-ne-COMMIT c =
    let a = c.args in
    wrote_this a.out.now a.at (ap (λ (v : List ℕ). held_octets (record { name = a.name; value = v })) (sym (value-shown (goal.at.returns-then-k-ne-COMMIT c).After-sent_body-v))) c.write_held.ensures

pub write_value_head-from-requires : goal.write_value_head-from-requires
write_value_head-from-requires c =
    let h = record-fits (goal.at.write_value_head-from-requires c).After-running_sums-s in
    (search rules, c.requires.1, omega arith)

pub overflow_add-end : goal.overflow_add-end
overflow_add-end c =
    let places = goal.at.overflow_add-end c in
    let e = behind-head places.After-write_value_head-from in
    let h = record-fits places.After-running_sums-s in
    search rules

pub slice_bounds-write_sums-end : goal.slice_bounds-write_sums-end
slice_bounds-write_sums-end c =
    let places = goal.at.slice_bounds-write_sums-end c in
    let e = behind-head places.After-write_value_head-from in
    let h = record-fits places.After-running_sums-s in
    search rules

pub returns : goal.returns
returns c =
    let places = goal.at.returns c in
    let k = places.After-running_sums-s in
    let a = c.args in
    let from = c.write_value_head-from.result in
    let e = c.write_sums.ensures ∙ sums-shown k in
    let l : length c.write_sums.new.out ≡ 4 = ap length e ∙ four-shown k in
    held-written a.out.now (asked k) a.at a.name (omega (arith, record-fits k, four-shown k)) (head-written places.After-write_value_head-from (four-shown k))
    (ap (λ (n : ℕ). from + n) (sym (four-shown k)), lent_back c.write_value_head-from.new.out _ from (from + 4) (omega arith) (omega (arith, l)) ∙ ap (splice c.write_value_head-from.new.out from) e)
