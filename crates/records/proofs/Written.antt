-- What a record's octets, written one behind another, leave in a room: the room with the record in it.
use Prim.Native.Nat.{ℕ, ◌+◌, ◌≤◌}
use native.Mathlib.Omega.{arith}
use mathlib.Core.Path.{◌≡◌, refl}
use mathlib.Core.List.{List, [], ◌∷◌, ◌++◌}
use lib.ListN.{length, set}
use Rattle.meaning.specs.Octets.{be16, splice}
use Rattle.meaning.specs.Reply.{held_octets, short_octets, failed_octets}
use Rattle.octets.specs.Writing.{Wrote}
use Rattle.octets.proofs.Splices.{one_store, then}

-- a value behind its head
pub held-written : (s v : List ℕ) (at name : ℕ) {p q : ℕ} {s₁ s₂ : List ℕ} → at + (4 + length v) ≤ length s → Wrote s at (be16 name ++ be16 (length v)) p s₁
    → Wrote s₁ p v q s₂ → Wrote s at (held_octets (record { name = name; value = v })) q s₂
unfolding held_octets be16
held-written s v at name h e f =
    (omega (arith, e.0, f.0), then s (be16 name ++ be16 (length v)) v at _ (omega arith) e.0 e.1 f.1)

-- name and one octet: a failed record, and a short one up to its value
octet-behind : (s : List ℕ) (at name x : ℕ) {s₁ : List ℕ} → at + 3 ≤ length s → length s₁ ≡ length s → s₁ ≡ splice s at (be16 name)
    → set s₁ (at + 2) x ≡ splice s at (be16 name ++ (x ∷ []))
unfolding be16
octet-behind s at name x {s₁} h l e =
    then s (be16 name) (x ∷ []) at (at + 2) (omega arith) refl e (one_store s₁ (at + 2) x (omega arith))

pub short-written : (s v : List ℕ) (at name : ℕ) {s₁ s₃ : List ℕ} → at + (3 + length v) ≤ length s → length s₁ ≡ length s
    → s₁ ≡ splice s at (be16 name) → s₃ ≡ splice (set s₁ (at + 2) (length v)) (at + 3) v
    → s₃ ≡ splice s at (short_octets (record { name = name; value = v }))
unfolding short_octets be16
short-written s v at name h l e₁ e₃ =
    then s (be16 name ++ (length v ∷ [])) v at (at + 3) (omega arith) refl (octet-behind s at name (length v) (omega arith) l e₁) e₃

pub failed-written : (s : List ℕ) (at name cause : ℕ) {s₁ : List ℕ} → at + 3 ≤ length s → length s₁ ≡ length s → s₁ ≡ splice s at (be16 name)
    → set s₁ (at + 2) cause ≡ splice s at (failed_octets (record { name = name; cause = cause }))
unfolding failed_octets
failed-written s at name cause h l e = octet-behind s at name cause h l e

pub head-written : (s : List ℕ) (at id n : ℕ) {s₂ : List ℕ} → at + 3 ≤ length s → s₂ ≡ splice (set s at id) (at + 1) (be16 n)
    → s₂ ≡ splice s at (id ∷ be16 n)
head-written s at id n h e =
    then s (id ∷ []) (be16 n) at (at + 1) (omega arith) refl (one_store s at id (omega arith)) e
