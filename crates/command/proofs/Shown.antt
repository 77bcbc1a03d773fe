-- What a read shows: the value of a place, for 8001 the two sums, and how long it is.
use Prim.Native.Nat.{ℕ, ◌≤◌, ◌<◌}
use native.Mathlib.Omega.{arith}
use mathlib.Core.Path.{◌≡◌, refl}
use mathlib.Core.Logic.{◌≢◌}
use mathlib.Core.Bool.{Bool, true, false, cond}
use mathlib.Core.List.{List}
use lib.Dec.{eqb, leb}
use lib.ListN.{length, length-take, length-drop}
use borrow.Author.Tests.{leb-true, eq-eqb, ne_eqb}
use Rattle.meaning.specs.Octets.{be16, part, below}
use Rattle.meaning.specs.Table.{entry_count, rows, row_at, commit}
use Rattle.meaning.specs.Block.{sums}
use Rattle.meaning.specs.Memory.{body, room}
use Rattle.meaning.specs.Profile.{on_wire}
use Rattle.meaning.specs.Step.{shown}
use Rattle.meaning.proofs.Tests.{below_at}

rooms-short : below entry_count (λ k. leb (row_at k).most 470) ≡ true
unfolding below row_at rows
rooms-short = refl

pub shown-short : (p : ℕ) (m : List ℕ) (k : ℕ) → k < entry_count → length (shown p m k) ≤ 470
unfolding shown on_wire body room part sums be16
shown-short p m k h = go (eqb k commit)
  where
    most : (row_at k).most ≤ 470
    most = leb-true _ _ (below_at entry_count (λ k. leb (row_at k).most 470) rooms-short k h)

    go : (b : Bool) → length (cond b (sums (body m commit)) (on_wire p k (body m k))) ≤ 470
    go true = omega arith
    go false = simp (length-drop, length-take) (omega (arith, most))

pub shown-commit : (p : ℕ) (m : List ℕ) (k : ℕ) → k ≡ commit → length (shown p m k) ≡ 4
unfolding shown sums be16
shown-commit p m k e = rw (eq-eqb k commit e)

pub shown-sums : (p : ℕ) (m : List ℕ) (k : ℕ) → k ≡ commit → shown p m k ≡ sums (body m k)
unfolding shown
shown-sums p m k e = rw e

pub shown-value : (p : ℕ) (m : List ℕ) (k : ℕ) → k ≢ commit → shown p m k ≡ on_wire p k (body m k)
unfolding shown
shown-value p m k e = rw (ne_eqb k commit e)
