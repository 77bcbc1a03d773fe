-- A reply by its kinds of record: what stands before the records of each, where it begins, and what is known where a reply is written.
use Rattle.std.specs.Prelude.{ℕ, ◌+◌, ◌≤◌, ◌≡◌, Bool, true, cond, List, [], ◌∷◌, ◌++◌, eqb, length}
use Rattle.meaning.specs.Octets.{be16}
use Rattle.meaning.specs.Wire.{element_status, element_update_result, message_most}
use Rattle.meaning.specs.Memory.{sound}
use Rattle.meaning.specs.Operation.{parse, is_some, or_none}
use Rattle.meaning.specs.Step.{after, answers}
use Rattle.meaning.specs.Reply.{Records}
use Rattle.command.specs.Answers.{any_change}
use Rattle.tally.specs.declared.Count.{Count}
use Rattle.tally.specs.declared.Tally.{Tally}
use Rattle.tally.specs.Tallies.{tally_of, read_octets, set_octets, any_read, any_set, reply_length, tally_fits, Below}
use Rattle.section.specs.Kinds.{Kind, Values, ReadErrors, Updates, UpdateErrors, LongUpdates, section, records_of}

-- ---- the preface of a kind: what stands before its records, by the tally

-- an element's identifier and length (2), and the count of its first records
unfoldable pub opening : Bool → ℕ → ℕ → ℕ → List ℕ
opening b id n count = cond b (id ∷ be16 n ++ (count ∷ [])) []

-- the count of the second records in an element
unfoldable pub second_count : Bool → ℕ → List ℕ
second_count b count = cond b (count ∷ []) []

-- the length (2) of the long updates, only if there are any
unfoldable pub long_length : Count → List ℕ
long_length c = cond (eqb c.count 0) [] (be16 c.octets)

unfoldable pub preface : Tally → Kind → List ℕ
preface t Values = opening (any_read t) element_status (read_octets t) t.values.count
preface t ReadErrors = second_count (any_read t) t.read_errors.count
preface t Updates = opening (any_set t) element_update_result (set_octets t) t.updates.count
preface t UpdateErrors = second_count (any_set t) t.update_errors.count
preface t LongUpdates = long_length t.long_updates

-- a kind's records with what stands before them
abbrev pub piece : Records → Kind → List ℕ
piece r k = preface (tally_of r) k ++ section k r

-- ---- where it begins

unfoldable pub octets_of : Tally → Kind → ℕ
octets_of t Values = t.values.octets
octets_of t ReadErrors = t.read_errors.octets
octets_of t Updates = t.updates.octets
octets_of t UpdateErrors = t.update_errors.octets
octets_of t LongUpdates = t.long_updates.octets

-- the octets of a kind's piece
abbrev pub span : Tally → Kind → ℕ
span t k = length (preface t k) + octets_of t k

-- the pieces follow one another from a place on
unfoldable pub begins : Tally → ℕ → Kind → ℕ
begins t at Values = at
begins t at ReadErrors = at + span t Values
begins t at Updates = at + span t Values + span t ReadErrors
begins t at UpdateErrors = at + span t Values + span t ReadErrors + span t Updates
begins t at LongUpdates = at + span t Values + span t ReadErrors + span t Updates + span t UpdateErrors

-- ---- what the code asks

-- sound memory, a whole list, the copy that its operations have left, and whether they may have changed it
abbrev pub Ready : (p : ℕ) → List ℕ → List ℕ → List ℕ → Bool → Type 0
Ready p m list copy changed =
    (sound m ≡ true)
    × (is_some (parse p list) ≡ true)
    × (length list ≤ message_most)
    × (copy ≡ after p m (or_none (parse p list)))
    × (changed ≡ any_change (answers p m (or_none (parse p list))))

-- the tally is that of the operations, and the reply fits so many octets
abbrev pub Fitting : (p : ℕ) → List ℕ → List ℕ → Tally → ℕ → Type 0
Fitting p m list t n = (t ≡ tally_of (records_of p m list)) × Below 16777216 t × (tally_fits (reply_length p t) n t ≡ true)
