-- A cell written octet by octet, a cell or a room that is lent on and comes back, fresh memory step by step.
use Prim.Native.Nat.{ℕ, zero, suc, ◌<◌, ◌+◌, ◌-◌, ◌*◌, ◌≤◌}
use native.Mathlib.Omega.{arith}
use native.Mathlib.Nat.{sub-zero}
use mathlib.Core.Path.{◌≡◌, refl, ap, ◌∙◌}
use mathlib.Core.List.{List, [], ◌∷◌, ◌++◌}
use lib.ListN.{length, take, drop, set, get_or}
use lib.Seq.{drop-drop}
use borrow.Rule.Slice.PartMut.{put_mid}
use Rattle.std.specs.Simd.{first_chunks}
use Rattle.meaning.specs.Octets.{be16, part, splice, zeros}
use Rattle.meaning.specs.Table.{rows, rooms, row_at, room_at}
use Rattle.meaning.specs.Memory.{cell, present, subscribed, pending, in_flight, bit, flags, cell_of, room_of, put_cell, put_room, put, absent, fresh}
use Rattle.meaning.proofs.Lists.{splice-length}
use Rattle.meaning.proofs.Places.{length-cell_of, length-room_of}
use Rattle.octets.proofs.Splices.{then, splice_all, two_stores, lent_back}
use Rattle.table.specs.declared.Flag.{Flag}
use Rattle.table.specs.declared.Flag.TheVariants.{Present, Subscribed, Pending, InFlight}
use Rattle.memory.specs.Flags.{marked, has}

-- the cell at a place is a chunk of memory, as many as there are
pub chunk-is : (n k : ℕ) (m : List ℕ) → k < n → get_or (first_chunks 6 n m) k [] ≡ cell m k
unfolding cell part
chunk-is zero k m h = absurd (omega (arith, h))
chunk-is (suc n) zero m h = refl
chunk-is (suc n) (suc k) m h =
    chunk-is n k (drop 6 m) (omega (arith, h)) ∙ ap (take 6) (drop-drop (6 * k) 6 m ∙ ap (λ (i : ℕ). drop i m) (omega arith))

-- an entry has the flags of its cell
pub marked-has : (f : Flag) (m : List ℕ) (k : ℕ) → marked f (cell m k) ≡ has f m k
unfolding present subscribed pending in_flight
marked-has Present m k = refl
marked-has Subscribed m k = refl
marked-has Pending m k = refl
marked-has InFlight m k = refl

-- name, flags, zero octet and length, one behind another
pub cell-written : (c : List ℕ) (name f n : ℕ) {s₁ s₃ : List ℕ} → length c ≡ 6 → s₁ ≡ splice c 0 (be16 name)
    → s₃ ≡ splice (set (set s₁ 2 f) 3 0) 4 (be16 n) → s₃ ≡ be16 name ++ (f ∷ 0 ∷ be16 n)
unfolding be16
cell-written c name f n {s₁} h e₁ e₃ =
    let l : length s₁ ≡ 6 = rw e₁ (splice-length c 0 (be16 name) (omega arith) ∙ h) in
    let e₂ : set (set s₁ 2 f) 3 0 ≡ splice s₁ 2 (f ∷ 0 ∷ []) = two_stores s₁ 2 f 0 (omega arith) in
    let a₂ = then c (be16 name) (f ∷ 0 ∷ []) 0 2 (omega arith) refl e₁ e₂ in
    then c (be16 name ++ (f ∷ 0 ∷ [])) (be16 n) 0 4 (omega arith) refl a₂ e₃
    ∙ splice_all c (be16 name ++ (f ∷ 0 ∷ []) ++ be16 n) (omega arith)

pub cell-back : (m c : List ℕ) (k f n : ℕ) → c ≡ cell_of k f n → put_mid (6 * k) (6 * k + 6 - 6 * k) m c ≡ put_cell m k f n
unfolding put_cell
cell-back m c k f n e =
    lent_back m c (6 * k) (6 * k + 6) (omega arith) (ap length e ∙ omega (arith, length-cell_of k f n)) ∙ ap (splice m (6 * k)) e

-- a room of w octets that starts at a and holds b of them, filled with a value
pub room_back : (m s v : List ℕ) (k a b w : ℕ) → a ≡ room_at k → b ≡ (row_at k).most → w ≡ a + b - a → length v ≤ (row_at k).most
    → s ≡ v ++ zeros (w - length v) → put_mid a (a + b - a) m s ≡ put_room m k v
unfolding put_room room_of
room_back m s v k a b w ha hb hw h e =
    let n : w ≡ (row_at k).most = omega (arith, hw, hb) in
    let f : s ≡ room_of k v = e ∙ ap (λ (j : ℕ). v ++ zeros (j - length v)) n in
    lent_back m s a (a + b) (omega arith) (ap length f ∙ omega (arith, length-room_of k v h, hb)) ∙ rw (f, ha)

-- cleared, named, and of the two values that fresh memory holds the one octet written that is not 0
pub fresh_made : (m : List ℕ) {a b d e : List ℕ} → length m ≡ 2100 → a ≡ take 0 m ++ zeros (length m - 0)
    → b ≡ absent 19 a → d ≡ put_cell b 1 1 1 → e ≡ put_cell d 7 1 4 → set e 602 64 ≡ fresh
unfolding fresh put put_room put_cell room_of cell_of absent splice row_at room_at rooms rows flags bit be16
fresh_made m h p q r s = rw (s, r, q, p, sub-zero, h)
