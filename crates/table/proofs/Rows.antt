-- The code's table against that of `meaning`: an arm of its `match`, what is left when no arm fits, the lengths at which rules are asked.
use Prim.Native.Nat.{ℕ, zero, suc, ◌+◌, ◌≤◌}
use native.Mathlib.Nat.{add-suc}
use native.Mathlib.Omega.{arith}
use mathlib.Core.Path.{◌≡◌, refl, sym, ap, ap₂, ◌∙◌}
use mathlib.Core.Bool.{Bool, true, false, ◌&&◌, ◌||◌}
use lib.Arith.{lt_of_le-ne}
use lib.ListN.{get_or-eq_default}
use lib.Seq.{take_all}
use lib.Dec.{eqb, leb, ltb}
use borrow.Author.Tests.{ne_eqb, eqb-true, eq-eqb, leb-true, le-leb, ltb-true, ltb-false}
use Rattle.meaning.specs.Table as table
use Rattle.meaning.specs.Table.{controller, port, nobody, free, within, time, entries, ratio, running, rows, row_at, rooms, room_at, by_controller, by_port}
use Rattle.meaning.specs.Octets.{below}
use Rattle.meaning.proofs.Tests.{and_left, and_right, below_at}
use Rattle.schedule.specs.Rules.{rule_of, asked}
use Rattle.schedule.specs.declared.Rule.{Rule}
use Rattle.schedule.specs.declared.Rule.TheVariants.{Free, Within, Time, Entries, Ratio, Running}
use Rattle.table.specs.Rows.{owner_of, row_of}
use Rattle.table.specs.declared.Row.{Row}
use denote.Enum.Bare.{sameb}
use Rattle.table.specs.contracts.Owner.{the_type}
use Rattle.table.specs.declared.Owner.{Owner}
use Rattle.table.specs.declared.Owner.TheVariants.{Controller, Port, Nobody}

-- what `row_at` says of a row and a place
abbrev pub IsRow : Row → ℕ → Type 0
IsRow r k = (row_of r ≡ row_at k) × (r.start ≡ room_at k) × (r.start + r.most ≤ 2100)

-- what a row of the code holds, field by field
module _ (r : Row) (x : table.Row) (e : row_of r ≡ x) where
  pub name_is : r.name ≡ x.name
  unfolding row_of
  name_is = ap (λ (t : table.Row). t.name) e

  pub least_is : r.least ≡ x.least
  unfolding row_of
  least_is = ap (λ (t : table.Row). t.least) e

  pub most_is : r.most ≡ x.most
  unfolding row_of
  most_is = ap (λ (t : table.Row). t.most) e

  pub owner_is : owner_of r.owner ≡ x.owner
  unfolding row_of
  owner_is = ap (λ (t : table.Row). t.owner) e

  pub rule_is : rule_of r.rule ≡ x.rule
  unfolding row_of
  rule_is = ap (λ (t : table.Row). t.rule) e

-- comparing an owner asks what the definitions ask
pub set_by_controller : (o : Owner) → sameb the_type o Controller ≡ by_controller (owner_of o)
unfolding by_controller owner_of
set_by_controller Controller = refl
set_by_controller Port = refl
set_by_controller Nobody = refl

pub set_by_port : (o : Owner) → sameb the_type o Port ≡ by_port (owner_of o)
unfolding by_port owner_of
set_by_port Controller = refl
set_by_port Port = refl
set_by_port Nobody = refl

-- so a row of the definitions and a start are one row of the code
abbrev owner_back : table.Owner → Owner
owner_back controller = Controller
owner_back port = Port
owner_back nobody = Nobody

abbrev rule_back : table.Rule → Rule
rule_back free = Free
rule_back (within a b) = Within a b
rule_back time = Time
rule_back entries = Entries
rule_back ratio = Ratio
rule_back running = Running

owner-back : (o : Owner) → owner_back (owner_of o) ≡ o
unfolding owner_of
owner-back Controller = refl
owner-back Port = refl
owner-back Nobody = refl

rule-back : (r : Rule) → rule_back (rule_of r) ≡ r
unfolding rule_of
rule-back Free = refl
rule-back (Within a b) = refl
rule-back Time = refl
rule-back Entries = refl
rule-back Ratio = refl
rule-back Running = refl

abbrev row_back : table.Row → ℕ → Row
row_back x s = record { name = x.name; least = x.least; most = x.most; start = s; owner = owner_back x.owner; rule = rule_back x.rule }

row_back_lem : (r : Row) → row_back (row_of r) r.start ≡ r
unfolding row_of
row_back_lem r = rw (owner-back r.owner, rule-back r.rule)

pub one_row : (r q : Row) → row_of r ≡ row_of q → r.start ≡ q.start → r ≡ q
one_row r q e s = sym (row_back_lem r) ∙ ap₂ row_back e s ∙ row_back_lem q

pub arm : (j k : ℕ) (r : Row) (x : table.Row) {s : ℕ} → k ≡ j → row_of r ≡ x → r.start ≡ s → x ≡ row_at j → s ≡ room_at j → s + x.most ≤ 2100 → IsRow r k
arm j k r x e p q y z h = (p ∙ y ∙ ap row_at (sym e), q ∙ z ∙ ap room_at (sym e), omega (arith, most_is r x p, q, h))

pub row_past : (k : ℕ) → 19 ≤ k → row_at k ≡ table.row 0 0 0 nobody free
unfolding row_at rows
row_past k h = get_or-eq_default rows (table.row 0 0 0 nobody free) h

-- past the table's end
pub no_arm : (k : ℕ) (r : Row) → 19 ≤ k → row_of r ≡ table.row 0 0 0 nobody free → r.start ≡ 2100 → IsRow r k
unfolding room_at rooms rows
no_arm k r h p q =
    (p ∙ sym (row_past k h), q ∙ rw (take_all k rows h), omega (arith, most_is r (table.row 0 0 0 nobody free) p, q))

-- a number that none of the n arms from a on fits, as a `match` tells it
abbrev pub NoneOf : ℕ → ℕ → ℕ → Type 0
NoneOf a zero k = Unit {0}
NoneOf a (suc n) k = NoneOf a n k × (k ≡ a + n → ⊥)

pub past : (a n k : ℕ) → a ≤ k → NoneOf a n k → a + n ≤ k
past a zero k l h = omega arith
past a (suc n) k l h = rw add-suc (lt_of_le-ne (past a n k l h.0) (λ e. h.1 (sym e)))

pub other : (x n : ℕ) → (n ≡ x → ⊥) → eqb x n ≡ false
other x n d = ne_eqb x n (λ e. d (sym e))

-- ---- the lengths of each row are lengths at which its rule is asked

-- every length from a to b is one at which the rule is asked
abbrev asked_from : table.Rule → ℕ → ℕ → Bool
asked_from free a b = true
asked_from (within x y) a b = eqb a b && (eqb b 1 || eqb b 4)
asked_from time a b = eqb a 10 && eqb b 10
asked_from entries a b = leb b 448
asked_from ratio a b = eqb a 8 && eqb b 8
asked_from running a b = true

-- a and b are one number, and n lies between them
only : (a b n : ℕ) → a ≤ n → n ≤ b → a ≡ b → n ≡ b
only a b n h l e = omega arith

asked-between : (r : table.Rule) (a b n : ℕ) → asked_from r a b ≡ true → a ≤ n → n ≤ b → asked r n ≡ true
unfolding asked
asked-between free a b n e h l = refl
asked-between (within x y) a b n e h l = rw (only a b n h l (eqb-true a b (and_left _ _ e))) (and_right (eqb a b) _ e)
asked-between time a b n e h l =
    eq-eqb n 10 (omega (arith, eqb-true a 10 (and_left _ _ e), eqb-true b 10 (and_right (eqb a 10) _ e), h, l))
asked-between entries a b n e h l = le-leb n 448 (omega (arith, leb-true b 448 e, l))
asked-between ratio a b n e h l =
    eq-eqb n 8 (omega (arith, eqb-true a 8 (and_left _ _ e), eqb-true b 8 (and_right (eqb a 8) _ e), h, l))
asked-between running a b n e h l = refl

abbrev asked_at : ℕ → Bool
asked_at k = asked_from (row_at k).rule (row_at k).least (row_at k).most

each_asked : below 19 asked_at ≡ true
unfolding below row_at rows
each_asked = refl

pub row-asked : (k n : ℕ) → (row_at k).least ≤ n → n ≤ (row_at k).most → asked (row_at k).rule n ≡ true
unfolding asked row_at
row-asked k n h l = go (ltb k 19) refl
  where
    go : (b : Bool) → ltb k 19 ≡ b → asked (row_at k).rule n ≡ true
    go true e = asked-between (row_at k).rule (row_at k).least (row_at k).most n (below_at 19 asked_at each_asked k (ltb-true k 19 e)) h l
    go false e = ap (λ (r : table.Row). asked r.rule n) (row_past k (ltb-false k 19 e))
