-- `script::instant` meets its contract.
use mathlib.Core.Path.{◌∙◌}
use mir.Facts.{to_z-of_z}
use Rattle.script.proofs.Instants.{counted-fits, instant_low, instant_high}
use Rattle.script.proofs.instant.Goals as goal

pub returns-then-n-lt-SIGN : goal.returns-then-n-lt-SIGN
returns-then-n-lt-SIGN c = instant_low _ c.nanoseconds-n.ensures c.if-n-lt-SIGN.true

pub overflow_sub-result-2 : goal.overflow_sub-result-2
overflow_sub-result-2 c = counted-fits c.nanoseconds-n.result c.if-n-lt-SIGN.false

pub returns : goal.returns
returns c = to_z-of_z (overflow_sub-result-2 c) ∙ instant_high _ c.nanoseconds-n.ensures c.if-n-lt-SIGN.false
