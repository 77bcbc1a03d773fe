-- The tally of a reply's records, and the reply's length by it.
use Rattle.std.specs.Prelude.{ℕ, ◌+◌, ◌≤◌, Bool, false, ◌||◌, not, cond, List, [], ◌∷◌, length, eqb, leb}
use Rattle.meaning.specs.Octets.{zeros, flat, every}
use Rattle.meaning.specs.Wire.{reply_most, count_most}
use Rattle.meaning.specs.Profile.{names_length}
use Rattle.meaning.specs.Reply.{Records, record_of, held_octets, short_octets, failed_octets}
use Rattle.operation.specs.declared.Op.{Op}
use Rattle.operation.specs.Handing.{from_of, size_of}
use Rattle.command.specs.Answers.{answer_of}
use Rattle.command.specs.declared.Answer.{Answer}
use Rattle.tally.specs.declared.Count.{Count}
use Rattle.tally.specs.declared.Tally.{Tally}

-- so many records more, of so many octets
unfoldable pub grown : Count → ℕ → ℕ → Count
grown c n octets = record { count = c.count + n; octets = c.octets + octets }

-- a tally, and some records more
unfoldable pub plus : Tally → Records → Tally
plus t r =
    record {
      capabilities = t.capabilities || r.capabilities;
      values = grown t.values (length r.values) (length (flat held_octets r.values));
      read_errors = grown t.read_errors (length r.read_errors) (length (flat failed_octets r.read_errors));
      updates = grown t.updates (length r.updates) (length (flat short_octets r.updates));
      update_errors = grown t.update_errors (length r.update_errors) (length (flat failed_octets r.update_errors));
      long_updates = grown t.long_updates (length r.long_updates) (length (flat held_octets r.long_updates));
    }

abbrev pub no_count : Count
no_count = record { count = 0; octets = 0 }

abbrev pub no_tally : Tally
no_tally = record { capabilities = false; values = no_count; read_errors = no_count; updates = no_count; update_errors = no_count; long_updates = no_count }

unfoldable pub tally_of : Records → Tally
tally_of r = plus no_tally r

-- a tally, and the record of an answer to an operation more. Of a set's value its length alone counts, so zeros stand for the list
unfoldable pub tallied : (p : ℕ) → List ℕ → Tally → Op → Answer → Tally
tallied p m t o a = plus t (record_of (answer_of p m (zeros (from_of o + size_of o)) o a))

-- ---- what the code asks and says of a tally

-- small enough for a sum more
abbrev pub Small : ℕ → Count → Type 0
Small b c = (c.count ≤ b) × (c.octets ≤ b)

abbrev pub Below : ℕ → Tally → Type 0
Below b t = Small b t.values × Small b t.read_errors × Small b t.updates × Small b t.update_errors × Small b t.long_updates

-- ---- the reply's length

-- contents of element 71
unfoldable pub read_octets : Tally → ℕ
read_octets t = 2 + t.values.octets + t.read_errors.octets

-- the long updates with their length (2), where there are any
unfoldable pub long_octets : Count → ℕ
long_octets c = cond (eqb c.count 0) 0 (2 + c.octets)

-- contents of element 72
unfoldable pub set_octets : Tally → ℕ
set_octets t = 2 + t.updates.octets + t.update_errors.octets + long_octets t.long_updates

-- whether a read, or a set, was asked
unfoldable pub any_read : Tally → Bool
any_read t = not (eqb (t.values.count + t.read_errors.count) 0)

unfoldable pub any_set : Tally → Bool
any_set t = not (eqb (t.updates.count + t.update_errors.count + t.long_updates.count) 0)

-- an element where it is needed: identifier, length (2), contents
unfoldable pub element_length : Bool → ℕ → ℕ
element_length b n = cond b (3 + n) 0

unfoldable pub reply_length : (p : ℕ) → Tally → ℕ
reply_length p t = 1 + element_length t.capabilities (names_length p) + element_length (any_read t) (read_octets t) + element_length (any_set t) (set_octets t)

-- a reply of l octets and of this tally fits a room of n octets
unfoldable pub tally_fits : ℕ → ℕ → Tally → Bool
tally_fits l n t =
    every
    (leb l n
    ∷ leb l reply_most
    ∷ leb t.values.count count_most
    ∷ leb t.read_errors.count count_most
    ∷ leb t.updates.count count_most
    ∷ leb t.update_errors.count count_most
    ∷ [])
