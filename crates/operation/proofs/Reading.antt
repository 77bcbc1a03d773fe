-- What a reader hands out is what stands at its place, and the reader goes on behind it.
use Prim.Native.Nat.{ℕ, ◌<◌}
use mathlib.Core.Path.{◌≡◌, refl, sym, ap, ◌∙◌}
use mathlib.Core.Bool.{Bool, true, false, true≢false, false≢true}
use mathlib.Core.List.{List}
use lib.ListN.{get_or}
use Rattle.std.specs.Prelude.{Option, Some, None, Result, Ok, Err, is_ok, is_some}
use Rattle.operation.specs.declared.Op.{Op}
use Rattle.operation.specs.declared.Op.TheVariants.{Capabilities}
use Rattle.operation.specs.declared.Malformed.{Malformed}
use Rattle.operation.specs.Handing.{Handed, handed, ended, handed_at, operation_in, place_behind}
use Rattle.operation.proofs.Turns.{HandsOut, NoOperation}
use Rattle.operation.proofs.Hands.{hands_out}

-- whether an operation is handed out
abbrev pub has_op : Result (Option Op) Malformed → Bool
has_op (Ok (Some o)) = true
has_op (Ok None) = false
has_op (Err e) = false

-- the operation that is handed out, if it is one
unfoldable pub op_or_names : Result (Option Op) Malformed → Op
op_or_names (Ok (Some o)) = o
op_or_names (Ok None) = Capabilities
op_or_names (Err e) = Capabilities

error_or : Malformed → Result (Option Op) Malformed → Malformed
error_or d (Ok o) = d
error_or d (Err e) = e

pub read_operation : (h : Handed) (o : Op) (at behind : ℕ) → Ok (Some o) ≡ operation_in h → behind ≡ place_behind at h → h ≡ handed o behind
unfolding operation_in place_behind has_op op_or_names
read_operation (Ok (Some n)) o at behind e f = rw (ap op_or_names e, f) refl
read_operation (Ok None) o at behind e f = absurd (true≢false (ap has_op e))
read_operation (Err q) o at behind e f = absurd (true≢false (ap has_op e))

-- where the reader has no operation, none is handed out
pub read_none : (h : Handed) (r : Result (Option Op) Malformed) → r ≡ operation_in h → has_op r ≡ false → NoOperation h
unfolding operation_in has_op
read_none h r e n o behind f = absurd (false≢true (sym n ∙ ap has_op e ∙ ap (λ (x : Handed). has_op (operation_in x)) f))

read_end : (h : Handed) → Ok None ≡ operation_in h → h ≡ ended
unfolding operation_in has_op
read_end (Ok (Some n)) e = absurd (false≢true (ap has_op e))
read_end (Ok None) e = refl
read_end (Err q) e = absurd (true≢false (ap is_ok e))

read_malformed : (h : Handed) (q : Malformed) → Err q ≡ operation_in h → h ≡ Err q
unfolding operation_in error_or
read_malformed (Ok (Some n)) q e = absurd (false≢true (ap is_ok e))
read_malformed (Ok None) q e = absurd (false≢true (ap is_ok e))
read_malformed (Err f) q e = ap Err (sym (ap (error_or q) e))

-- at a place of the list s, which the reader has
module _ (p : ℕ) (s t : List ℕ) (octets : (i : ℕ) → get_or s i 0 < 256) (at : ℕ) (same : t ≡ s) where
  abbrev there : Handed
  there = handed_at p t at

  hands : (r : Handed) → there ≡ r → HandsOut p s at r
  hands r e = hands_out p s octets at r (sym e ∙ ap (λ (u : List ℕ). handed_at p u at) same)

  pub hands_there : HandsOut p s at there
  hands_there = hands there refl

  hands_operation : (o : Op) (behind : ℕ) → Ok (Some o) ≡ operation_in there → behind ≡ place_behind at there → HandsOut p s at (handed o behind)
  hands_operation o behind e f = hands (handed o behind) (read_operation there o at behind e f)

  pub hands_malformed : (q : Malformed) → Err q ≡ operation_in there → HandsOut p s at (Err q)
  hands_malformed q e = hands (Err q) (read_malformed there q e)

  pub hands_end : (f : Option Op) → Ok f ≡ operation_in there → is_some f ≡ false → HandsOut p s at ended
  hands_end (Some o) e n = absurd (true≢false n)
  hands_end None e n = hands ended (read_end there e)

  pub hands_some : (f : Option Op) (behind : ℕ) → Ok f ≡ operation_in there → is_some f ≡ true → behind ≡ place_behind at there → HandsOut p s at (handed (op_or_names (Ok f)) behind)
  unfolding op_or_names
  hands_some (Some o) behind e y f = hands_operation o behind e f
  hands_some None behind e y f = absurd (false≢true y)
