-- `words::Valued::word` meets its contract.
use Rattle.octets.specs.Letters.{letters}
use Rattle.words.specs.Lines.{valued_word}
use Rattle.words.proofs.Valued.word.Goals as goal

pub returns-in-Value : goal.returns-in-Value
unfolding valued_word letters
returns-in-Value c = rw c.in-Value.is

pub returns-in-Update : goal.returns-in-Update
unfolding valued_word letters
returns-in-Update c = rw c.in-Update.is

pub returns-in-LongUpdate : goal.returns-in-LongUpdate
unfolding valued_word letters
returns-in-LongUpdate c = rw c.in-LongUpdate.is
