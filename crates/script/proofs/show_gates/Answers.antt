-- `script::show_gates` meets its contract.
use mir.Syntax.{w64}
use mir.Facts.{to_z-of_z}
use Rattle.script.proofs.Instants.{instant-fits}
use Rattle.script.proofs.show_gates.Goals as goal

pub returns : goal.returns
returns c =
    let i = c.instant in
    let e = to_z-of_z {w = w64} {z = i.result} (rw i.ensures (instant-fits c.args.body.now)) in
    rw (c.gates_at.ensures, e, i.ensures) at c.write_gates.ensures
