-- `script::show_delay` meets its contract.
use mathlib.Core.Path.{ap, ◌∙◌}
use Rattle.meaning.specs.Delay.{delay}
use Rattle.script.proofs.show_delay.Goals as goal

pub returns : goal.returns
returns c =
    rw (c.delay_octets-stored.ensures ∙ ap delay c.nanoseconds.ensures) at c.write_octets.ensures
