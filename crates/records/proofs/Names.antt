-- The names that a profile lists, one after another in table order.
use Prim.Native.Nat.{ℕ, ◌+◌, ◌≤◌, ◌<◌}
use native.Mathlib.Numerals.{add-one}
use native.Mathlib.Omega.{arith}
use mathlib.Core.Path.{◌≡◌, refl, ap}
use mathlib.Core.Bool.{true, false, cond}
use mathlib.Core.List.{List, [], ◌++◌}
use lib.ListN.{length, drop, drop_of_length-le}
use lib.Seq.{drop-cons}
use Rattle.meaning.specs.Octets.{be16, flat}
use Rattle.meaning.specs.Table.{Row, row, nobody, free, rows, row_at, entry_count}
use Rattle.meaning.specs.Profile.{lists, listed}
use Rattle.meaning.specs.Reply.{all_names}
use Rattle.meaning.proofs.Told.{place_of_name}

-- the name at a place as it is written, and those from a place on
abbrev pub name_at : ℕ → ℕ → List ℕ
name_at p k = cond (lists p k) (be16 (row_at k).name) []

abbrev pub names_from : ℕ → ℕ → List ℕ
names_from p k = flat (λ (r : Row). cond (listed p r.name) (be16 r.name) []) (drop k rows)

-- where the profile lists it, these are its octets, and else there are none
pub name-listed : (p k : ℕ) {n : ℕ} → lists p k ≡ true → n ≡ (row_at k).name → name_at p k ≡ be16 n
name-listed p k e f = rw (e, f)

pub name_unlisted : (p k : ℕ) → lists p k ≡ false → name_at p k ≡ []
name_unlisted p k e = rw e

count : length rows ≡ entry_count
unfolding rows
count = refl

pub names-all : (p : ℕ) → all_names p ≡ names_from p 0
unfolding all_names
names-all p = refl

-- a name is listed exactly if its place is
row_listed : (p k : ℕ) → k < entry_count → listed p (row_at k).name ≡ lists p k
unfolding listed
row_listed p k h = ap (lists p) (place_of_name k h)

pub names-next : (p k : ℕ) → k < entry_count → names_from p k ≡ name_at p k ++ names_from p (k + 1)
unfolding flat row_at
names-next p k h = rw (add-one, drop-cons rows k (row 0 0 0 nobody free) (omega (arith, count)), row_listed p k h)

pub names_none : (p k : ℕ) → entry_count ≤ k → names_from p k ≡ []
unfolding flat
names_none p k h =
    let past : length rows ≤ k = omega (arith, count) in
    rw (drop_of_length-le rows past)
