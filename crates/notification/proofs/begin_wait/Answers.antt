-- `notification::begin_wait` meets its contract.
use mathlib.Core.Path.{ap, ◌∙◌}
use Rattle.meaning.specs.Table.{entry_count}
use Rattle.meaning.specs.Calls.{when_sent, turned}
use Rattle.notification.specs.Moments.{moment_of}
use Rattle.notification.proofs.begin_wait.Goals as goal

pub returns : goal.returns
unfolding moment_of
returns c = c.turn.ensures ∙ ap (turned when_sent entry_count) c.set_timer.ensures
