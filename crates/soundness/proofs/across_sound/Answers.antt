-- `soundness::across_sound` meets its contract.
use native.Mathlib.Omega.{arith}
use mathlib.Core.Bool.{and-true}
use Rattle.meaning.specs.Octets.{every, implies}
use Rattle.meaning.specs.Memory.{timer, timer_sound}
use Rattle.meaning.proofs.Lists.{part-octet}
use Rattle.soundness.specs.Fields.{across_sound}
use Rattle.soundness.proofs.across_sound.Goals as goal

pub returns : goal.returns
unfolding across_sound every implies timer_sound timer
returns c =
    let m = c.args.m.now in
    rw (
      c.has-gate.ensures,
      c.has-most.ensures,
      c.has-runs.ensures,
      c.four_present-four.ensures,
      c.timer_sound.ensures,
      part-octet m 114 2 0 (omega arith),
      part-octet m 114 2 1 (omega arith),
      and-true,
    )
