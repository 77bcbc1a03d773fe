-- `words::write_cause` meets its contract.
use native.Mathlib.Omega.{arith}
use mathlib.Core.Path.{ap}
use Rattle.octets.specs.Letters.{letters}
use Rattle.words.specs.Words.{cause_word}
use Rattle.words.proofs.Written.{other_cause}
use Rattle.words.proofs.write_cause.Goals as goal

pub returns-in-1 : goal.returns-in-1
unfolding cause_word letters
returns-in-1 c = rw (ap cause_word c.in-1.is) c.print.ensures

pub returns-in-2 : goal.returns-in-2
unfolding cause_word letters
returns-in-2 c = rw (ap cause_word c.in-2.is) c.print-in-2.ensures

pub returns-in-3 : goal.returns-in-3
unfolding cause_word letters
returns-in-3 c = rw (ap cause_word c.in-3.is) c.print-in-3.ensures

pub returns-in_default : goal.returns-in_default
unfolding letters
returns-in_default c =
    rw (other_cause c.args.cause (λ e. omega arith) (λ e. omega arith) (λ e. omega arith)) c.print-in_default.ensures
