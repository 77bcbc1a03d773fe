-- The answers of the code's enum as those of `meaning` and back, and which of them may come with a changed memory.
use Rattle.std.specs.Prelude.{ℕ, ◌<◌, Bool, true, false, ◌||◌, cond, List, [], ◌∷◌, Option, Some, None, Result, Ok, Err, ⊤}
use Rattle.meaning.specs.Octets.{part}
use Rattle.meaning.specs.Table.{entry_count, place}
use Rattle.meaning.specs.Step.{names, value, read_error, update, update_error, silent, shown}
use Rattle.meaning.specs.Step as step
use Rattle.meaning.specs.Profile.{lists}
use Rattle.wire.specs.declared.Cause.{Cause}
use Rattle.wire.specs.Causes.{octet_of}
use Rattle.operation.specs.declared.Op.{Op}
use Rattle.operation.specs.Handing.{name_of, from_of, size_of}
use Rattle.command.specs.declared.Answer.{Answer}
use Rattle.command.specs.declared.Answer.TheVariants.{Names, Value, ReadError, Update, UpdateError, Silent}

-- an answer to the operation o: its name is the operation's, and its value lies in the memory m or in the list s
unfoldable pub answer_of : (p : ℕ) → List ℕ → List ℕ → Op → Answer → step.Answer
answer_of p m s o Names = names
answer_of p m s o (Value k) = value (name_of o) (shown p m k)
answer_of p m s o (ReadError c) = read_error (name_of o) c
answer_of p m s o Update = update (name_of o) (part s (from_of o) (size_of o))
answer_of p m s o (UpdateError c) = update_error (name_of o) c
answer_of p m s o Silent = silent

-- a value read lies at a place of the table
abbrev pub InTable : Answer → Type 0
InTable Names = Unit {0}
InTable (Value k) = k < entry_count
InTable (ReadError c) = Unit {0}
InTable Update = Unit {0}
InTable (UpdateError c) = Unit {0}
InTable Silent = Unit {0}

-- an answer of `meaning` as the code's: a value by the place of its name
unfoldable pub told : step.Answer → Answer
told names = Names
told (value n v) = Value (place n)
told (read_error n c) = ReadError c
told (update n v) = Update
told (update_error n c) = UpdateError c
told silent = Silent

-- what a read comes to: the place of its value or the octet of a cause, as an answer
unfoldable pub told_read : Result ℕ Cause → Answer
told_read (Ok k) = Value k
told_read (Err c) = ReadError (octet_of c)

-- what a set comes to: the number of the check that fails, which is its cause's octet, 0 where none does
unfoldable pub failed_check : Result ⊤ Cause → ℕ
failed_check (Ok u) = 0
failed_check (Err c) = octet_of c

-- the place of a name that the profile lists
unfoldable pub listed_place : ℕ → ℕ → Option ℕ
listed_place p n = cond (lists p (place n)) (Some (place n)) None

-- an operation with this answer may have changed memory: a value set, or a mark
unfoldable pub may_change : Answer → Bool
may_change Names = false
may_change (Value k) = false
may_change (ReadError c) = false
may_change Update = true
may_change (UpdateError c) = false
may_change Silent = true

unfoldable pub any_change : List step.Answer → Bool
any_change [] = false
any_change (r ∷ rs) = may_change (told r) || any_change rs
