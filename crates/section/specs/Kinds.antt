-- The kinds of record that a reply holds, and the octets of each.
use Rattle.std.specs.Prelude.{ℕ, List, [], ◌∷◌}
use Rattle.meaning.specs.Octets.{flat}
use Rattle.meaning.specs.Operation.{parse, or_none}
use Rattle.meaning.specs.Reply.{Records, held_octets, short_octets, failed_octets}
use Rattle.meaning.specs.Calls.{records}

pub data Kind : Type 0 where
  Values : Kind
  ReadErrors : Kind
  Updates : Kind
  UpdateErrors : Kind
  LongUpdates : Kind

-- the kinds in the order of a reply
unfoldable pub order : List Kind
order = Values ∷ ReadErrors ∷ Updates ∷ UpdateErrors ∷ LongUpdates ∷ []

-- the octets of the records of a kind
unfoldable pub section : Kind → Records → List ℕ
section Values r = flat held_octets r.values
section ReadErrors r = flat failed_octets r.read_errors
section Updates r = flat short_octets r.updates
section UpdateErrors r = flat failed_octets r.update_errors
section LongUpdates r = flat held_octets r.long_updates

-- the records of a list of operations, carried out on m
abbrev pub records_of : (p : ℕ) → List ℕ → List ℕ → Records
records_of p m list = records p m (or_none (parse p list))

-- the octets of each kind that they come to
abbrev pub sections : (p : ℕ) → List ℕ → List ℕ → Kind → List ℕ
sections p m list k = section k (records_of p m list)
