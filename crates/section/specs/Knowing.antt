-- What is known of the running block's sums.
use Rattle.std.specs.Prelude.{ℕ, ◌≡◌, cond, List, eqb, Option, Some, None}
use Rattle.meaning.specs.Table.{commit}
use Rattle.meaning.specs.Block.{sums_of}
use Rattle.meaning.specs.Memory.{body}
use Rattle.operation.specs.declared.Op.{Op}
use Rattle.operation.specs.declared.Op.TheVariants.{Capabilities, Read, Set, Subscribe, Unsubscribe, SelectiveRead, SelectiveSubscribe, SelectiveUnsubscribe, DeleteEntry}
use Rattle.schedule.specs.declared.Sums.{Sums}
use Rattle.command.specs.declared.Answer.{Answer}
use Rattle.command.specs.declared.Answer.TheVariants.{Names, Value, ReadError, Update, UpdateError, Silent}

-- the sums of the block that runs in m
unfoldable pub running_sums : List ℕ → Sums
running_sums m = record { first = (sums_of (body m commit)).first; second = (sums_of (body m commit)).second }

abbrev pub Knows : List ℕ → Option Sums → Type 0
Knows m None = Unit {0}
Knows m (Some s) = s ≡ running_sums m

-- what is still known after an operation: any set of 8001 forgets it
unfoldable pub kept_after : Op → Option Sums → Option Sums
kept_after Capabilities known = known
kept_after (Read n) known = known
kept_after (Set v) known = cond (eqb v.name 0x8001) None known
kept_after (Subscribe n) known = known
kept_after (Unsubscribe n) known = known
kept_after (SelectiveRead v) known = known
kept_after (SelectiveSubscribe v) known = known
kept_after (SelectiveUnsubscribe v) known = known
kept_after (DeleteEntry v) known = known

-- what is known where an operation has this answer: a value read at the place of 8001 finds the sums
unfoldable pub learnt_from : List ℕ → Answer → Option Sums → Option Sums
learnt_from m Names known = known
learnt_from m (Value k) known = cond (eqb k commit) (Some (running_sums m)) known
learnt_from m (ReadError c) known = known
learnt_from m Update known = known
learnt_from m (UpdateError c) known = known
learnt_from m Silent known = known
