-- `desk::run` meets its contract.
use mathlib.Core.Path.{refl}
use Rattle.desk.proofs.run.Goals as goal

pub loop-init : goal.loop-init
loop-init g c = (c.start-line.ensures.keeps _ c.requires.0, refl, refl, refl)
