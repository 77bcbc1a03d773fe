-- What is held of the input: how long a piece is, the rest of one moved to the front.
use Prim.Native.Nat.{ℕ, ◌+◌, ◌-◌, ◌*◌, ◌≤◌, ◌<◌}
use native.Mathlib.Omega.{arith}
use mathlib.Core.Path.{◌≡◌, ap, ◌∙◌}
use mathlib.Core.Bool.{Bool, true, false, cond}
use mathlib.Core.List.{List}
use Rattle.std.specs.Prelude.{Some, None}
use lib.ListN.{length, get_or, take}
use lib.Dec.{leb}
use borrow.Author.Tests.{le-leb, lt-leb}
use Rattle.meaning.specs.Octets.{at16, part, splice}
use Rattle.meaning.proofs.Lists.{length_part}
use Rattle.octets.proofs.Splices.{splice_front}
use Rattle.stdio.specs.Pieces.{needed, next_at}

-- ---- a piece's octets

pub needed-head : (s : List ℕ) (from head : ℕ) → length s < from + head → needed s from head ≡ head
unfolding needed
needed-head s from head h = rw (lt-leb (from + head) (length s) h)

pub needed-all : (s : List ℕ) (from head : ℕ) → from + head ≤ length s → needed s from head ≡ head + at16 s (from + head - 2)
unfolding needed
needed-all s from head h = rw (le-leb (from + head) (length s) h)

pub needed-least : (s : List ℕ) (from head : ℕ) → head ≤ needed s from head
unfolding needed
needed-least s from head = go (leb (from + head) (length s))
  where
    go : (b : Bool) → head ≤ cond b (head + at16 s (from + head - 2)) head
    go true = omega arith
    go false = omega arith

pub needed-most : (s : List ℕ) (from head : ℕ) → ((i : ℕ) → get_or s i 0 < 256) → needed s from head ≤ head + 65535
unfolding needed at16
needed-most s from head octets = go (leb (from + head) (length s))
  where
    go : (b : Bool) → cond b (head + (get_or s (from + head - 2) 0 * 256 + get_or s (from + head - 2 + 1) 0)) head ≤ head + 65535
    go true = omega (arith, octets (from + head - 2), octets (from + head - 2 + 1))
    go false = omega arith

-- a piece that is there, and one of which octets are missing
module _ (s : List ℕ) (from head : ℕ) {n : ℕ} (e : n ≡ needed s from head) where
  pub next-whole : {end : ℕ} → end ≡ from + n → end ≤ length s → Some end ≡ next_at s from head
  unfolding next_at
  next-whole f h = rw (← e, le-leb (from + n) (length s) (omega (arith, f, h))) (ap Some f)

  pub next_more : length s < from + n → None ≡ next_at s from head
  unfolding next_at
  next_more h = rw (← e, lt-leb (from + n) (length s) h)

-- ---- octets moved to the front

-- and octets read behind them
pub in_front : (s₀ : List ℕ) (from to : ℕ) {n : ℕ} {s₁ : List ℕ} (s₂ : List ℕ) → from ≤ to → to ≤ length s₀ → (n ≡ to - from) × (s₁ ≡ splice s₀ 0 (part s₀ from n)) → take n s₂ ≡ take n s₁
    → take (to - from) s₂ ≡ part s₀ from (to - from)
in_front s₀ from to {n} s₂ h k e f =
    let l = length_part s₀ from n (omega (arith, e.0)) in
    let g : take n s₂ ≡ part s₀ from n = f ∙ ap (take n) e.1 ∙ (rw l at (splice_front s₀ (part s₀ from n))) in
    rw e.0 at g
