-- `soundness::sound_old` meets its contract.
use mathlib.Core.Path.{sym, ap, ap₂, ◌∙◌}
use mathlib.Core.Bool.{◌&&◌}
use Rattle.meaning.specs.Memory.{sound}
use Rattle.meaning.specs.Moves.{none_in_flight, sound_old}
use Rattle.soundness.proofs.Entries.{another-length}
use Rattle.soundness.proofs.sound_old.Goals as goal

pub returns-in_default : goal.returns-in_default
unfolding sound_old
returns-in_default c = rw (sym (another-length c.args.m.now c.in_default.ensures.cases))

pub returns : goal.returns
unfolding sound_old
returns c =
    let e = c.in-Some.ensures.cases.same in
    ap₂ ◌&&◌ (c.sound.ensures ∙ ap sound e) (c.none_in_flight.ensures ∙ ap none_in_flight e)
