-- `notification::turn` meets its contract.
use mathlib.Core.Path.{◌≡◌}
use Rattle.meaning.specs.Calls.{turned}
use Rattle.notification.specs.Moments.{moment_of}
use Rattle.notification.proofs.turn.Given as goal

abbrev pub invariant-loop-k : goal.invariant-loop-k
invariant-loop-k l = l.m ≡ turned (moment_of l.moment) l.k l.initial.m
