-- The records of a reply, six kinds, and the octets that spell them.
use Rattle.std.specs.Prelude.{ℕ, Bool, true, false, ◌||◌, cond, List, [], ◌∷◌, ◌++◌, length, leb}
use Rattle.meaning.specs.Octets.{be16, flat, nonempty, every}
use Rattle.meaning.specs.Table.{Row, rows}
use Rattle.meaning.specs.Wire.{type_complete, element_capability, element_status, element_update_result, count_most, short_most}
use Rattle.meaning.specs.Profile.{listed}
use Rattle.meaning.specs.Step.{Answer, names, value, read_error, update, update_error, silent}

-- a name and a value; a name and a cause
pub record Held : Type 0 where
  pub name : ℕ
  pub value : List ℕ

pub record Failed : Type 0 where
  pub name : ℕ
  pub cause : ℕ

pub record Records : Type 0 where
  pub capabilities : Bool
  pub values : List Held
  pub read_errors : List Failed
  pub updates : List Held
  pub update_errors : List Failed
  pub long_updates : List Held

abbrev pub kinds : Bool → List Held → List Failed → List Held → List Failed → List Held → Records
kinds c v e u f l =
    record { capabilities = c; values = v; read_errors = e; updates = u; update_errors = f; long_updates = l }

abbrev pub no_records : Records
no_records = kinds false [] [] [] [] []

-- joined kind by kind; capabilities are listed if one side lists them
abbrev pub joined : Records → Records → Records
joined r s =
    record {
      capabilities = r.capabilities || s.capabilities;
      values = r.values ++ s.values;
      read_errors = r.read_errors ++ s.read_errors;
      updates = r.updates ++ s.updates;
      update_errors = r.update_errors ++ s.update_errors;
      long_updates = r.long_updates ++ s.long_updates;
    }

abbrev pub held : ℕ → List ℕ → List Held
held n v = record { name = n; value = v } ∷ []

abbrev pub failed : ℕ → ℕ → List Failed
failed n c = record { name = n; cause = c } ∷ []

-- the record of an answer; an update of more than 255 octets is a long one (RULES 12.9, 12.11)
unfoldable pub record_of : Answer → Records
record_of names = kinds true [] [] [] [] []
record_of (value n v) = kinds false (held n v) [] [] [] []
record_of (read_error n c) = kinds false [] (failed n c) [] [] []
record_of (update n v) =
    cond (leb (length v) short_most) (kinds false [] [] (held n v) [] []) (kinds false [] [] [] [] (held n v))
record_of (update_error n c) = kinds false [] [] [] (failed n c) []
record_of silent = no_records

unfoldable pub gathered : List Answer → Records
gathered [] = no_records
gathered (a ∷ as') = joined (record_of a) (gathered as')

-- ---- octets

-- a value with a length of two octets (RULES 12.6), with one of one octet (RULES 12.9); a cause (RULES 12.7)
unfoldable pub held_octets : Held → List ℕ
held_octets h = be16 h.name ++ (be16 (length h.value) ++ h.value)

unfoldable pub short_octets : Held → List ℕ
short_octets h = be16 h.name ++ (length h.value ∷ h.value)

unfoldable pub failed_octets : Failed → List ℕ
failed_octets f = be16 f.name ++ (f.cause ∷ [])

-- contents of element 71, and of a notification (RULES 12.6, 12.7, 14.2)
unfoldable pub read_contents : Records → List ℕ
read_contents r =
    length r.values ∷ flat held_octets r.values
    ++ (length r.read_errors ∷ flat failed_octets r.read_errors)

-- a length and the long updates, only if there are any (RULES 12.11, 12.12)
unfoldable pub long_octets : List Held → List ℕ
long_octets [] = []
long_octets (h ∷ hs) = be16 (length (flat held_octets (h ∷ hs))) ++ flat held_octets (h ∷ hs)

-- contents of element 72 (RULES 12.9 to 12.12)
unfoldable pub set_contents : Records → List ℕ
set_contents r =
    length r.updates ∷ flat short_octets r.updates
    ++ (length r.update_errors ∷ flat failed_octets r.update_errors
    ++ long_octets r.long_updates)

-- contents of element 70: the listed names in table order (RULES 12.4, 24.3)
unfoldable pub all_names : ℕ → List ℕ
all_names p = flat (λ (r : Row). cond (listed p r.name) (be16 r.name) []) rows

-- an element where it is needed (RULES 12.2)
unfoldable pub element : ℕ → Bool → List ℕ → List ℕ
element id true c = id ∷ be16 (length c) ++ c
element id false c = []

abbrev pub any_read : Records → Bool
any_read r = nonempty r.values || nonempty r.read_errors

abbrev pub any_set : Records → Bool
any_set r = nonempty r.updates || (nonempty r.update_errors || nonempty r.long_updates)

unfoldable pub complete : ℕ → Records → List ℕ
complete p r =
    type_complete ∷ element element_capability r.capabilities (all_names p)
    ++ (element element_status (any_read r) (read_contents r)
    ++ element element_update_result (any_set r) (set_contents r))

-- no count is over what its octet can tell (RULES 12.14)
unfoldable pub counts_fit : Records → Bool
counts_fit r =
    every
    (leb (length r.values) count_most
    ∷ leb (length r.read_errors) count_most
    ∷ leb (length r.updates) count_most
    ∷ leb (length r.update_errors) count_most
    ∷ [])
