-- `octets::get16` meets its contract.
use mathlib.Core.Path.{◌∙◌}
use borrow.Author.Rules.{rules}
use Rattle.meaning.specs.Octets.{at16}
use Rattle.octets.proofs.get16.Goals as goal

pub returns : goal.returns
unfolding at16
returns c = (c.from.ensures ∙ c.from_be_bytes.ensures, search rules)
