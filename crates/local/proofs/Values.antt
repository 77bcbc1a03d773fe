-- Lists compared octet by octet, and which local values are permitted.
use Prim.Native.Nat.{ℕ, suc, ◌≤◌, ◌<◌}
use native.Mathlib.Omega.{arith}
use mathlib.Core.Path.{◌≡◌, refl, sym, ap, ◌∙◌}
use mathlib.Core.Bool.{Bool, true, false, not, ◌||◌, ◌&&◌, and-true, and_assoc, not-not}
use mathlib.Core.List.{List, [], ◌∷◌}
use lib.Dec.{eqb, ltb}
use lib.Pointwise.{pointwise}
use native.Mathlib.Decide.{dec_le}
use lib.ListN.{length}
use borrow.Author.Tests.{ltb-true, lt-ltb, le-ltb, ne_eqb}
use Rattle.meaning.specs.Octets.{same, nonempty, every}
use Rattle.meaning.specs.Table.{Row, place, row_at, by_port, entry_count}
use Rattle.meaning.specs.Block.{permits}
use Rattle.meaning.specs.Memory.{subscribed, pending, in_flight, body, flags, put}
use Rattle.meaning.specs.Calls.{local_permitted, differs, local_memory}
use Rattle.meaning.proofs.Values.{permits_opened}
use Rattle.meaning.proofs.Tests.{every_at}
use Rattle.table.proofs.Rows.{row_past}

-- ---- what is permitted

-- past the table's end there is no row that the port sets
no_port : (k : ℕ) → entry_count ≤ k → by_port (row_at k).owner ≡ false
unfolding by_port
no_port k h = ap (λ (r : Row). by_port r.owner) (row_past k h)

-- so the name needs no test of its own
placed : (k : ℕ) → (ltb k entry_count && by_port (row_at k).owner) ≡ by_port (row_at k).owner
placed k = go (dec_le entry_count k)
  where
    go : Dec (entry_count ≤ k) → (ltb k entry_count && by_port (row_at k).owner) ≡ by_port (row_at k).owner
    go (yes h) = rw (le-ltb k entry_count h) (sym (no_port k h))
    go (no h) = rw (lt-ltb k entry_count (omega (arith, h))) refl

empty-is : (v : List ℕ) → eqb (length v) 0 ≡ not (nonempty v)
empty-is [] = refl
empty-is (x ∷ v) = ne_eqb (suc (length v)) 0 (λ e. absurd (omega (arith, e)))

pub permitted_tests : (n k : ℕ) (v : List ℕ) → k ≡ place n
    → local_permitted n v ≡ (by_port (row_at k).owner && (eqb (length v) 0 || permits (row_at k) v))
unfolding local_permitted every
permitted_tests n k v p =
    rw (sym p, and-true, empty-is v) (sym (and_assoc (ltb k entry_count) (by_port (row_at k).owner) (not (nonempty v) || permits (row_at k) v)) ∙ ap (λ (t : Bool). t && (not (nonempty v) || permits (row_at k) v)) (placed k))

-- ---- for whoever stores it

-- a permitted value has a place, and room there
pub permitted-place : (n : ℕ) (v : List ℕ) → local_permitted n v ≡ true → (place n < entry_count) × (length v ≤ (row_at (place n)).most)
unfolding local_permitted
permitted-place n v e = (ltb-true _ _ (every_at _ 0 e), go v (every_at _ 2 e))
  where
    go : (w : List ℕ) → (not (nonempty w) || permits (row_at (place n)) w) ≡ true → length w ≤ (row_at (place n)).most
    go [] t = omega arith
    go (x ∷ w) t = (permits_opened _ _ t).1

-- octets are compared as the definition compares them
same_octets : (a b : List ℕ) → pointwise eqb a b ≡ same a b
unfolding same
same_octets [] [] = refl
same_octets [] (y ∷ b) = refl
same_octets (x ∷ a) [] = refl
same_octets (x ∷ a) (y ∷ b) = ap (λ (t : Bool). eqb x y && t) (same_octets a b)

-- the entry as the code puts it together
pub stored_is : (m : List ℕ) (k : ℕ) (v m' : List ℕ) {s t e : Bool} {f : ℕ} → s ≡ subscribed m k → t ≡ not (pointwise eqb (body m k) v) → e ≡ eqb (length v) 0
    → f ≡ flags (not e) (subscribed m k) (pending m k || (s && t)) (in_flight m k) → m' ≡ put m k f v → m' ≡ local_memory m k v
unfolding local_memory differs
stored_is m k v m' a b c d e = e ∙ ap (λ (g : ℕ). put m k g v) (d ∙ rw (a, b, c, same_octets (body m k) v, empty-is v, not-not))
