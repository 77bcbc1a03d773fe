-- `rig::RigTakePieces::take` meets its contract.
use Rattle.script.proofs.Lend.{front_is}
use Rattle.rig.specs.Script.{effect_of}
use Rattle.rig.proofs.RigTakePieces.take.Goals as goal

pub returns-clause-takes : goal.returns-clause-takes
unfolding effect_of
returns-clause-takes c =
    let before = c.args.self.now in
    let d = c.in_ok-self.ensures in
    (d.0, rw (front_is before.memory _ d.1.memory_is, front_is before.room _ d.1.room_is), d.1.printed, d.1.short)
