-- The records that are due, counted, and each kind of them as octets.
use Rattle.std.specs.Prelude.{ℕ, ◌+◌, ◌*◌, ◌≤◌, Bool, true, false, cond, List, [], ◌∷◌, length}
use Rattle.meaning.specs.Octets.{flat}
use Rattle.meaning.specs.Memory.{pending}
use Rattle.meaning.specs.Profile.{release18}
use Rattle.meaning.specs.Step.{Answer}
use Rattle.meaning.specs.Reply.{gathered, held_octets, failed_octets}
use Rattle.meaning.specs.Calls.{report, reports}
use Rattle.notification.specs.declared.Due.{Due}

-- the octets of the values among some reports, or of the errors
unfoldable pub part_of : Bool → List Answer → List ℕ
part_of true rs = flat held_octets (gathered rs).values
part_of false rs = flat failed_octets (gathered rs).read_errors

-- the values due among the first k entries, which are the same in every profile, and the absent names
abbrev pub values_due : List ℕ → ℕ → List ℕ
values_due m k = part_of true (reports release18 m k)

abbrev pub absent_due : ℕ → List ℕ → ℕ → List ℕ
absent_due p m k = part_of false (reports p m k)

-- what the mark at a place makes due
unfoldable pub due_at : ℕ → List ℕ → ℕ → List Answer
due_at p m k = cond (pending m k) (report p m k ∷ []) []

-- some reports, counted
unfoldable pub due_of : List Answer → Due
due_of rs = record { values = length (gathered rs).values; octets = length (part_of true rs); absent = length (gathered rs).read_errors }

-- a count, and some reports more
unfoldable pub more : Due → List Answer → Due
more d rs =
    record {
      values = d.values + length (gathered rs).values;
      octets = d.octets + length (part_of true rs);
      absent = d.absent + length (gathered rs).read_errors;
    }

-- no more than n names make due
abbrev pub Few : ℕ → Due → Type 0
Few n d = (d.values ≤ n) × (d.octets ≤ n * 65540) × (d.absent ≤ n)
