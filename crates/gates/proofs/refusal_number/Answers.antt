-- `gates::refusal_number` meets its contract.
use borrow.Author.Rules.{rules}
use Rattle.gates.specs.Answers.{refusal_number}
use Rattle.gates.proofs.refusal_number.Goals as goal

pub returns-in-MemoryUnsound : goal.returns-in-MemoryUnsound
unfolding refusal_number
returns-in-MemoryUnsound c = search rules

pub returns-in-NothingRuns : goal.returns-in-NothingRuns
unfolding refusal_number
returns-in-NothingRuns c = search rules
