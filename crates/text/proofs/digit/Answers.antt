-- `text::digit` meets its contract.
use borrow.Author.Rules.{rules}
use Rattle.text.proofs.Writes.{digit_is, masked}
use Rattle.text.proofs.digit.Goals as goal

pub overflow_add-result-3 : goal.overflow_add-result-3
overflow_add-result-3 c = search (rules, masked)

pub returns : goal.returns
returns c = digit_is _ c.requires
