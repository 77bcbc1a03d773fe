-- `tally::Tally::add` meets its contract.
use Prim.Native.Nat.{ℕ, ◌+◌, ◌≤◌}
use native.Mathlib.Omega.{arith}
use mathlib.Core.Path.{◌≡◌, sym, ap, ◌∙◌}
use mathlib.Core.List.{List}
use lib.ListN.{length}
use Rattle.meaning.specs.Octets.{zeros, part}
use Rattle.operation.specs.Handing.{name_of, from_of, size_of}
use Rattle.operation.proofs.Turns.{inside-value}
use Rattle.command.specs.Answers.{answer_of}
use Rattle.tally.specs.Tallies.{grown, tallied}
use Rattle.tally.proofs.Plus.{names_added, silent_added, value_added, read_error_added, update_error_added, update_added, long_added, zeros-part}
use Rattle.tally.proofs.Tally.add.Goals as goal
use Rattle.tally.proofs.Tally.add.Goals.{After-size-size}

-- the length of a set's value
module _ (c : After-size-size) where
  size_small : c.size-size.result ≤ 2048
  size_small = omega (arith, c.size-size.ensures, inside-value 2048 c.args.op c.requires.1)

  abbrev stands : List ℕ
  stands =
      let o = c.args.op in
      part (zeros (from_of o + size_of o)) (from_of o) (size_of o)

  size-long : length stands ≡ c.size-size.result
  size-long = zeros-part c.args.op ∙ sym c.size-size.ensures

pub overflow_add-size-else-size-le-SHORT_MOST : goal.overflow_add-size-else-size-le-SHORT_MOST
overflow_add-size-else-size-le-SHORT_MOST c = omega (arith, size_small (goal.at.overflow_add-size-else-size-le-SHORT_MOST c).After-size-size)

pub add-requires-else-size-le-SHORT_MOST : goal.add-requires-else-size-le-SHORT_MOST
add-requires-else-size-le-SHORT_MOST c =
    (c.requires.0.4.0, c.requires.0.4.1, omega (arith, size_small (goal.at.add-requires-else-size-le-SHORT_MOST c).After-size-size))

pub returns-in-Names : goal.returns-in-Names
unfolding tallied answer_of
returns-in-Names c = rw c.in-Names.is (names_added c.args.self.now)

pub returns-in-Value : goal.returns-in-Value
unfolding tallied answer_of
returns-in-Value c =
    let t = c.args.self.now in
    rw c.in-Value.is (value_added t _ _ (c.add.ensures ∙ ap (λ (n : ℕ). grown t.values 1 (4 + n)) c.shown_length.ensures.0))

pub returns-in-ReadError : goal.returns-in-ReadError
unfolding tallied answer_of
returns-in-ReadError c = rw c.in-ReadError.is (read_error_added c.args.self.now _ _ c.add-in-ReadError.ensures)

pub returns-then-size-le-SHORT_MOST : goal.returns-then-size-le-SHORT_MOST
unfolding tallied answer_of
returns-then-size-le-SHORT_MOST c =
    let places = goal.at.returns-then-size-le-SHORT_MOST c in
    let t = c.args.self.now in
    let l = size-long places.After-size-size in
    rw c.in-Update.is
    (update_added t (name_of c.args.op) (stands places.After-size-size) (omega (arith, l, c.if-size-le-SHORT_MOST.true)) (c.add-then-size-le-SHORT_MOST.ensures ∙ ap (λ (n : ℕ). grown t.updates 1 (3 + n)) (sym l)))

pub returns-else-size-le-SHORT_MOST : goal.returns-else-size-le-SHORT_MOST
unfolding tallied answer_of
returns-else-size-le-SHORT_MOST c =
    let places = goal.at.returns-else-size-le-SHORT_MOST c in
    let t = c.args.self.now in
    let l = size-long places.After-size-size in
    rw c.in-Update.is
    (long_added t (name_of c.args.op) (stands places.After-size-size) (omega (arith, l, c.if-size-le-SHORT_MOST.false)) (c.add-else-size-le-SHORT_MOST.ensures ∙ ap (λ (n : ℕ). grown t.long_updates 1 (4 + n)) (sym l)))

pub returns-in-UpdateError : goal.returns-in-UpdateError
unfolding tallied answer_of
returns-in-UpdateError c = rw c.in-UpdateError.is (update_error_added c.args.self.now _ _ c.add-in-UpdateError.ensures)

pub returns-in-Silent : goal.returns-in-Silent
unfolding tallied answer_of
returns-in-Silent c = rw c.in-Silent.is (silent_added c.args.self.now)
