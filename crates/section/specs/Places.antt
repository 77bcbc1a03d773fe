-- Where the records of each kind go, and what an answer writes for each.
use Rattle.std.specs.Prelude.{ℕ, List}
use Rattle.meaning.specs.Reply.{record_of}
use Rattle.operation.specs.declared.Op.{Op}
use Rattle.command.specs.declared.Answer.{Answer}
use Rattle.command.specs.Answers.{answer_of}
use Rattle.section.specs.declared.Places.{Places}
use Rattle.section.specs.Kinds.{Kind, Values, ReadErrors, Updates, UpdateErrors, LongUpdates, section}

unfoldable pub place_of : Places → Kind → ℕ
place_of c Values = c.values
place_of c ReadErrors = c.read_errors
place_of c Updates = c.updates
place_of c UpdateErrors = c.update_errors
place_of c LongUpdates = c.long_updates

-- the record of an answer to an operation, for each kind: there are octets for one kind at most
abbrev pub shares : (p : ℕ) → List ℕ → List ℕ → Op → Answer → Kind → List ℕ
shares p m s o a k = section k (record_of (answer_of p m s o a))
