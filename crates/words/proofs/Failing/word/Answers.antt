-- `words::Failing::word` meets its contract.
use Rattle.octets.specs.Letters.{letters}
use Rattle.words.specs.Lines.{failing_word}
use Rattle.words.proofs.Failing.word.Goals as goal

pub returns-in-ReadError : goal.returns-in-ReadError
unfolding failing_word letters
returns-in-ReadError c = rw c.in-ReadError.is

pub returns-in-UpdateError : goal.returns-in-UpdateError
unfolding failing_word letters
returns-in-UpdateError c = rw c.in-UpdateError.is
