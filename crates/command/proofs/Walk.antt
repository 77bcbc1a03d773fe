-- A walk over the operations of a whole list, each carried out on the working copy: what is known before each turn.
use Prim.Native.Nat.{ℕ, ◌≤◌, ◌<◌}
use native.Mathlib.Omega.{arith}
use mathlib.Core.Path.{◌≡◌, refl, sym, ap, ◌∙◌, subst}
use mathlib.Core.Logic.{◌⊎◌, inl, inr}
use Rattle.std.specs.Prelude.{Some, None, Ok, Err}
use mathlib.Core.Bool.{true, false≢true}
use mathlib.Core.List.{List, [], ◌∷◌}
use lib.ListN.{length, drop}
use Rattle.meaning.specs.Memory.{sound}
use Rattle.meaning.specs.Operation.{parse, is_some, or_none}
use Rattle.meaning.specs.Operation as operation
use Rattle.meaning.specs.Step.{step, after}
use Rattle.meaning.proofs.Kept.{step-sound}
use Rattle.operation.specs.declared.Op.{Op}
use Rattle.operation.specs.Handing.{op_of, Inside, Handed, handed, refused, ended}
use Rattle.operation.proofs.Turns.{HandsOut, NoOperation, turn-malformed, turn_end, turn-whole, turn_ops}

-- the operations from a position on
abbrev pub rest : (p : ℕ) → List ℕ → ℕ → List operation.Op
rest p list at = or_none (parse p (drop at list))

-- the operations before the position have been carried out on the copy of m
pub record Under (p : ℕ) (m list copy : List ℕ) (at : ℕ) : Type 0 where
  pub inside : at ≤ length list
  pub is_sound : sound copy ≡ true
  pub whole : is_some (parse p (drop at list)) ≡ true
  pub leads : after p copy (rest p list at) ≡ after p m (rest p list 0)

pub under_start : (p : ℕ) (m list copy : List ℕ) → sound m ≡ true → is_some (parse p list) ≡ true → copy ≡ m → Under p m list copy 0
under_start p m list copy s w e = record { inside = omega arith; is_sound = rw e s; whole = w; leads = rw e }

-- where no operation is handed out, none is left
none_left : (p : ℕ) (list : List ℕ) (at : ℕ) (h : Handed) → is_some (parse p (drop at list)) ≡ true → HandsOut p list at h → NoOperation h → rest p list at ≡ []
none_left p list at (Ok (Some n)) w e k = absurd (k n.op n.behind refl)
none_left p list at (Ok None) w e k = ap or_none (turn_end p list at e.0)
none_left p list at (Err q) w e k = absurd (false≢true (sym (ap is_some (turn-malformed p list at q.position e.0)) ∙ w))

-- the case of what is handed out where it is no operation
pub not_operation : (h : Handed) → NoOperation h → ((q : ℕ) × (h ≡ refused q)) ⊎ (h ≡ ended)
not_operation (Ok (Some n)) k = absurd (k n.op n.behind refl)
not_operation (Ok None) k = inr refl
not_operation (Err e) k = inl (e.position, refl)

module _ (p : ℕ) (m list copy : List ℕ) (at : ℕ) (u : Under p m list copy at) (h : Handed) (hands : HandsOut p list at h) where
  pub under_end : NoOperation h → (rest p list at ≡ []) × (copy ≡ after p m (rest p list 0))
  unfolding after
  under_end t =
      let e = none_left p list at h u.whole hands t in
      (e, rw e at u.leads)

  -- one turn
  module _ (o : Op) (next : ℕ) (e : h ≡ handed o next) where
    out : HandsOut p list at (handed o next)
    out = subst (HandsOut p list at) e hands

    pub under_ahead : (at < next) × (next ≤ length list) × Inside (length list) o
    under_ahead = out.1

    pub under_rest : rest p list at ≡ op_of list o ∷ rest p list next
    under_rest = turn_ops p list at next o out.0 u.whole

    pub under_turn : (copy' : List ℕ) → copy' ≡ step p copy (op_of list o) → Under p m list copy' next
    unfolding after
    under_turn copy' q =
        record {
          inside = under_ahead.1;
          is_sound = rw q (step-sound p copy (op_of list o) u.is_sound);
          whole = turn-whole p list at next o out.0 u.whole;
          leads = rw q (rw under_rest at u.leads);
        }
