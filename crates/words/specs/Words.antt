-- The words of parameters and of causes (RULES 21).
use Rattle.std.specs.Prelude.{ℕ, cond, List, [], ◌∷◌, get_or, eqb}
use Prim.Native.String.{String}
use Rattle.meaning.specs.Table.{place}
use Rattle.meaning.specs.Wire.{cause_not_supported, cause_invalid_value, cause_unavailable}
use Rattle.octets.specs.Letters.{letters}

-- in table order (RULES 3.10)
unfoldable pub parameters : List String
parameters =
    "txPropagationDelay"
    ∷ "GateEnabled"
    ∷ "AdminBaseTime"
    ∷ "AdminControlListLength"
    ∷ "AdminControlList"
    ∷ "AdminCycleTime"
    ∷ "TickGranularity"
    ∷ "SupportedListMax"
    ∷ "lldpV2PortConfigAdminStatusV2"
    ∷ "lldpV2LocChassisIdSubtype"
    ∷ "lldpV2LocChassisId"
    ∷ "lldpV2LocPortIdSubtype"
    ∷ "lldpV2LocPortId"
    ∷ "lldpV2RemChassisIdSubtype"
    ∷ "lldpV2RemChassisId"
    ∷ "lldpV2RemPortIdSubtype"
    ∷ "lldpV2RemPortId"
    ∷ "lldpTTL"
    ∷ "commit"
    ∷ []

-- the word at a place of the table, and that of a name
unfoldable pub word_at : ℕ → List ℕ
word_at k = letters (get_or parameters k "unknown")

unfoldable pub word : ℕ → List ℕ
word name = word_at (place name)

-- a cause that is not told reads as a protocol error
unfoldable pub cause_word : ℕ → List ℕ
cause_word c =
    cond (eqb c cause_not_supported) (letters "not-supported")
    (cond (eqb c cause_invalid_value) (letters "invalid-value")
    (cond (eqb c cause_unavailable) (letters "unavailable") (letters "protocol-error")))
