-- The octets of a message from a place up to another: their length, and what is left of them behind some.
use Prim.Native.Nat.{ℕ, suc, ◌+◌, ◌-◌, ◌≤◌, ◌<◌}
use native.Mathlib.Numerals.{add-one}
use native.Mathlib.Omega.{arith}
use mathlib.Core.Path.{◌≡◌, ap, ◌∙◌}
use mathlib.Core.List.{List, [], ◌∷◌}
use lib.ListN.{length, take, drop, length-drop}
use lib.Seq.{take_all, take-take, take-add, drop_at, drop-drop, drop-cons, length-take-le}
use Rattle.meaning.specs.Octets.{octet, at16, part}
use Rattle.meaning.proofs.Lists.{length_part, part-octet}

abbrev pub between : List ℕ → ℕ → ℕ → List ℕ
between s at to = part s at (to - at)

pub between_none : (s : List ℕ) (at to : ℕ) → to ≤ at → between s at to ≡ []
unfolding part
between_none s at to h =
    let z : to - at ≡ 0 = omega arith in
    rw z

-- the number that the first two octets spell
pub part-at16 : (s : List ℕ) (at n : ℕ) → 2 ≤ n → at16 (part s at n) 0 ≡ at16 s at
unfolding at16
part-at16 s at n h =
    let z : at + 0 ≡ at = omega arith in
    rw (part-octet s at n 0 (omega arith), part-octet s at n 1 (omega arith), z)

-- up to the end
pub between_end : (s : List ℕ) (at : ℕ) → between s at (length s) ≡ drop at s
unfolding part
between_end s at = take_all (length s - at) (drop at s) (simp length-drop (omega arith))

module _ (s : List ℕ) (at to : ℕ) (l : to ≤ length s) where
  pub between-length : at ≤ to → length (between s at to) ≡ to - at
  between-length h = length_part s at (to - at) (omega arith)

  module _ (k : ℕ) (b : at + k ≤ to) where
    pub between-take : take k (between s at to) ≡ part s at k
    unfolding part
    between-take = take-take k (to - at) (drop at s) (omega arith)

    pub between-drop : drop k (between s at to) ≡ between s (at + k) to
    unfolding part
    between-drop =
        let n : to - at ≡ k + (to - (at + k)) = omega arith in
        rw (n, take-add k (to - (at + k)) (drop at s), drop-drop k at s)
        (drop_at (take k (drop at s)) _ k (length-take-le k (drop at s) (simp length-drop (omega arith))))

  pub between-part : (k n : ℕ) → at + k + n ≤ to → part (between s at to) k n ≡ part s (at + k) n
  unfolding part
  between-part k n b = ap (take n) (unfold part in between-drop k (omega arith)) ∙ take-take n (to - (at + k)) (drop (at + k) s) (omega arith)

  pub between_front : at < to → between s at to ≡ octet s at ∷ between s (at + 1) to
  unfolding part
  between_front h =
      let n : to - at ≡ suc (to - (at + 1)) = omega arith in
      rw (n, drop-cons s at 0 (omega arith), add-one)
