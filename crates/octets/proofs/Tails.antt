-- A room of which a value fills the front: the tail behind it zeroed.
use Prim.Native.Nat.{ℕ, ◌-◌, ◌≤◌}
use native.Mathlib.Omega.{arith}
use mathlib.Core.Path.{◌≡◌, refl}
use mathlib.Core.List.{List, ◌++◌}
use lib.ListN.{length, take, drop, length-append, length-drop}
use lib.Seq.{take_at}
use Rattle.meaning.specs.Octets.{zeros}

pub filled : (r v : List ℕ) → length v ≤ length r
    → take (length v) (v ++ drop (length v) r) ++ zeros (length (v ++ drop (length v) r) - length v) ≡ v ++ zeros (length r - length v)
filled r v h =
    let l : length (v ++ drop (length v) r) ≡ length r = simp (length-append, length-drop) (omega arith) in
    rw (l, take_at v (drop (length v) r) (length v) refl)
