-- The operations of a command, and how a list of octets is parsed to operations.
use Rattle.std.specs.Prelude.{ℕ, zero, suc, ◌+◌, ◌-◌, Bool, true, false, cond, List, [], ◌∷◌, length, drop, eqb, leb}
use Rattle.std.proofs.Math.Option.{Option, none, some}
use Rattle.meaning.specs.Octets.{at16, part}
use Rattle.meaning.specs.Profile.{has_code}
use Rattle.meaning.specs.Wire.{code_capabilities, code_read, code_set, code_subscribe, code_unsubscribe, code_selective_read, code_selective_subscribe, code_selective_unsubscribe, code_delete_entry}

pub data Op : Type 0 where
  capabilities : Op
  read : ℕ → Op
  set : ℕ → List ℕ → Op
  subscribe : ℕ → Op
  unsubscribe : ℕ → Op
  selective_read : ℕ → List ℕ → Op
  selective_subscribe : ℕ → List ℕ → Op
  selective_unsubscribe : ℕ → List ℕ → Op
  delete_entry : ℕ → List ℕ → Op

-- what follows a code: nothing; a name; a name, a length and a value (RULES 10.4 to 10.8, 10.15 to 10.18). Others are malformed (RULES 10.9)
pub data Shape : Type 0 where
  alone : Op → Shape
  named : (ℕ → Op) → Shape
  valued : (ℕ → List ℕ → Op) → Shape
  malformed : Shape

unfoldable pub shape_of : ℕ → Shape
shape_of c =
    cond (eqb c code_capabilities) (alone capabilities)
    (cond (eqb c code_read) (named read)
    (cond (eqb c code_set) (valued set)
    (cond (eqb c code_subscribe) (named subscribe)
    (cond (eqb c code_unsubscribe) (named unsubscribe)
    (cond (eqb c code_selective_read) (valued selective_read)
    (cond (eqb c code_selective_subscribe) (valued selective_subscribe)
    (cond (eqb c code_selective_unsubscribe) (valued selective_unsubscribe)
    (cond (eqb c code_delete_entry) (valued delete_entry)
    malformed))))))))

-- a code that the profile has not is malformed too (RULES 24.5)
unfoldable pub shape : ℕ → ℕ → Shape
shape p c = cond (has_code p c) (shape_of c) malformed

-- an operation and the octets after it, or one that is malformed or cut short
pub data Next : Type 0 where
  bad : Next
  got : Op → List ℕ → Next

-- the operation o, if the w octets after its code are there
unfoldable pub whole : ℕ → List ℕ → Op → Next
whole w s o = cond (leb w (length s)) (got o (drop w s)) bad

-- the operation of a shape, from the octets after its code
unfoldable pub shaped : Shape → List ℕ → Next
shaped (alone o) s = got o s
shaped (named f) s = whole 2 s (f (at16 s 0))
shaped (valued f) s = whole (4 + at16 s 2) s (f (at16 s 0) (part s 4 (at16 s 2)))
shaped malformed s = bad

unfoldable pub more : Op → Option (List Op) → Option (List Op)
more o none = none
more o (some os) = some (o ∷ os)

unfoldable pub follow : Next → (List ℕ → Option (List Op)) → Option (List Op)
follow bad rest = none
follow (got o s) rest = more o (rest s)

-- at most n octets parsed: each operation takes one or more
unfoldable pub parse_in : ℕ → ℕ → List ℕ → Option (List Op)
parse_in p zero [] = some []
parse_in p zero (c ∷ s) = none
parse_in p (suc n) [] = some []
parse_in p (suc n) (c ∷ s) = follow (shaped (shape p c) s) (λ r. parse_in p n r)

-- the operations of a list of octets (RULES 10.10); none where one is malformed or cut short
unfoldable pub parse : ℕ → List ℕ → Option (List Op)
parse p s = parse_in p (length s) s

abbrev pub is_some : Option (List Op) → Bool
is_some none = false
is_some (some os) = true

abbrev pub or_none : Option (List Op) → List Op
or_none none = []
or_none (some os) = os

-- ---- where a list breaks

-- what is broken of the octets s, by their first operation: all of them where it is malformed or cut short, else what is broken behind it
unfoldable pub from_broken : List ℕ → Next → (List ℕ → List ℕ) → List ℕ
from_broken s bad rest = s
from_broken s (got o r) rest = rest r

-- with at most n octets gone through, as by `parse_in`
unfoldable pub broken_in : ℕ → ℕ → List ℕ → List ℕ
broken_in p zero s = s
broken_in p (suc n) [] = []
broken_in p (suc n) (c ∷ s) = from_broken (c ∷ s) (shaped (shape p c) s) (λ r. broken_in p n r)

-- the octets from the first operation on that is malformed or cut short; none where each is whole
unfoldable pub broken : ℕ → List ℕ → List ℕ
broken p s = broken_in p (length s) s

-- a place among the L octets as a position in the message, whose first octet is 0: its type and L stand before them (RULES 10.1)
abbrev pub in_message : ℕ → ℕ
in_message at = 3 + at

-- the position of the first operation that is malformed or cut short, from the L octets (RULES 15.27)
unfoldable pub break_of : ℕ → List ℕ → ℕ
break_of p s = in_message (length s - length (broken p s))
