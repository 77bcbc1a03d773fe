-- `section::Places::put` meets its contract.
use Prim.Native.Nat.{ℕ, ◌+◌, ◌-◌, ◌≤◌, ◌<◌}
use native.Mathlib.Omega.{arith}
use mathlib.Core.Path.{◌≡◌, sym, ap, ap₂, ◌∙◌}
use mathlib.Core.List.{List}
use lib.ListN.{length, take, drop}
use borrow.Author.Rules.{rules}
use Rattle.meaning.specs.Octets.{part}
use Rattle.meaning.proofs.Lists.{length_part}
use Rattle.octets.proofs.Splices.{part_is}
use Rattle.operation.specs.Handing.{name_of, from_of, size_of}
use Rattle.operation.proofs.Turns.{inside-name, inside-value}
use Rattle.meaning.specs.Reply.{held_octets, short_octets}
use Rattle.records.proofs.Pieces.{wrote_this}
use Rattle.section.proofs.Shares.{none_put, value-put, read_error-put, update_error-put, short-put, long-put, value-fits, read_error-fits, update_error-fits, short-fits, long-fits}
use Rattle.section.proofs.Places.put.Goals as goal
use Rattle.section.proofs.Places.put.Goals.{After-name-name, After-size}

small : (c : After-name-name) → name_of c.args.op < 65536
small c = inside-name _ c.args.op c.requires.1

module _ (c : After-size) where
  lies : from_of c.args.op + size_of c.args.op ≤ length c.args.list.now
  lies = inside-value _ c.args.op c.requires.1

  within : c.start-from.result + c.size.result ≤ length c.args.list.now
  within = omega (arith, lies, c.start-from.ensures, c.size.ensures)

  -- the value sent, as it is lent
  sent_is : take (c.start-from.result + c.size.result - c.start-from.result) (drop c.start-from.result c.args.list.now) ≡ part c.args.list.now (from_of c.args.op) (size_of c.args.op)
  sent_is = part_is c.args.list.now c.start-from.result c.size.result ∙ ap₂ (part c.args.list.now) c.start-from.ensures c.size.ensures

  long : length (part c.args.list.now (from_of c.args.op) (size_of c.args.op)) ≡ size_of c.args.op
  long = length_part c.args.list.now (from_of c.args.op) (size_of c.args.op) lies

pub write_value-self-requires : goal.write_value-self-requires
write_value-self-requires c =
    rw c.name-name.ensures
    (rw c.in-Value.is at c.requires.2, small (goal.at.write_value-self-requires c).After-name-name, c.requires.3, value-fits _ _ _ _ c.args.a c.args.self.now _ c.requires.4 c.in-Value.is)

pub write_failed-self-requires : goal.write_failed-self-requires
write_failed-self-requires c =
    rw c.name-name.ensures (read_error-fits _ _ _ _ c.args.a c.args.self.now _ c.requires.4 c.in-ReadError.is, small (goal.at.write_failed-self-requires c).After-name-name)

pub overflow_add-v : goal.overflow_add-v
overflow_add-v c =
    let h = within (goal.at.overflow_add-v c).After-size in
    search rules

pub slice_bounds-v-end : goal.slice_bounds-v-end
slice_bounds-v-end c =
    let h = within (goal.at.slice_bounds-v-end c).After-size in
    search rules

pub write_short-self-requires : goal.write_short-self-requires
write_short-self-requires c =
    let places = goal.at.write_short-self-requires c in
    let s = places.After-size in
    let n : size_of c.args.op ≤ 255 = omega (arith, c.if-v-le-SHORT_MOST.true, ap length (sent_is s), long s) in
    rw (sent_is s)
    (rw (long s) (short-fits _ _ _ _ c.args.a c.args.self.now _ c.requires.4 c.in-Update.is (lies s) n), omega (arith, small places.After-name-name, c.name-name.ensures), omega (arith, long s, n))

pub returns-then-v-le-SHORT_MOST : goal.returns-then-v-le-SHORT_MOST
returns-then-v-le-SHORT_MOST c =
    let s = (goal.at.returns-then-v-le-SHORT_MOST c).After-size in
    let n : size_of c.args.op ≤ 255 = omega (arith, c.if-v-le-SHORT_MOST.true, ap length (sent_is s), long s) in
    short-put _ c.args.m.now c.args.list.now c.args.op c.args.a c.args.self.now c.args.out.now _ _ c.in-Update.is (lies s) n
    (wrote_this c.args.out.now _ (ap₂ (λ (n : ℕ) (v : List ℕ). short_octets (record { name = n; value = v })) (sym c.name-name.ensures) (sym (sent_is s))) c.write_short-self.ensures)

pub write_held-self-requires : goal.write_held-self-requires
write_held-self-requires c =
    let places = goal.at.write_held-self-requires c in
    let s = places.After-size in
    let n : 255 < size_of c.args.op = omega (arith, c.if-v-le-SHORT_MOST.false, ap length (sent_is s), long s) in
    rw (sent_is s)
    (rw (long s) (long-fits _ _ _ _ c.args.a c.args.self.now _ c.requires.4 c.in-Update.is (lies s) n), omega (arith, small places.After-name-name, c.name-name.ensures), omega (arith, long s, lies s, c.requires.0))

pub returns-else-v-le-SHORT_MOST : goal.returns-else-v-le-SHORT_MOST
returns-else-v-le-SHORT_MOST c =
    let s = (goal.at.returns-else-v-le-SHORT_MOST c).After-size in
    let n : 255 < size_of c.args.op = omega (arith, c.if-v-le-SHORT_MOST.false, ap length (sent_is s), long s) in
    long-put _ c.args.m.now c.args.list.now c.args.op c.args.a c.args.self.now c.args.out.now _ _ c.in-Update.is (lies s) n
    (wrote_this c.args.out.now _ (ap₂ (λ (n : ℕ) (v : List ℕ). held_octets (record { name = n; value = v })) (sym c.name-name.ensures) (sym (sent_is s))) c.write_held-self.ensures)

pub write_failed-self-requires-in-UpdateError : goal.write_failed-self-requires-in-UpdateError
write_failed-self-requires-in-UpdateError c =
    rw c.name-name.ensures (update_error-fits _ _ _ _ c.args.a c.args.self.now _ c.requires.4 c.in-UpdateError.is, small (goal.at.write_failed-self-requires-in-UpdateError c).After-name-name)

pub returns-in-Value : goal.returns-in-Value
returns-in-Value c =
    value-put _ c.args.m.now c.args.list.now c.args.op c.args.a c.args.self.now c.args.out.now _ _ c.in-Value.is (rw c.name-name.ensures at c.write_value-self.ensures)

pub returns-in-ReadError : goal.returns-in-ReadError
returns-in-ReadError c =
    read_error-put _ c.args.m.now c.args.list.now c.args.op c.args.a c.args.self.now c.args.out.now _ _ c.in-ReadError.is (rw c.name-name.ensures at c.write_failed-self.ensures)

pub returns-in-UpdateError : goal.returns-in-UpdateError
returns-in-UpdateError c =
    update_error-put _ c.args.m.now c.args.list.now c.args.op c.args.a c.args.self.now c.args.out.now _ _ c.in-UpdateError.is (rw c.name-name.ensures at c.write_failed-self-in-UpdateError.ensures)

pub returns-in-Names : goal.returns-in-Names
returns-in-Names c =
    none_put _ c.args.m.now c.args.list.now c.args.op c.args.a c.args.self.now c.args.out.now c.in-Names.is
