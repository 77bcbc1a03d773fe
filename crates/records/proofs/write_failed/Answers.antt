-- `records::write_failed` meets its contract.
use Prim.Native.Nat.{ℕ, ◌+◌}
use mathlib.Core.Path.{sym, ap}
use Rattle.records.proofs.Lengths.{failed-length}
use Rattle.records.proofs.Written.{failed-written}
use Rattle.records.proofs.write_failed.Goals as goal

pub returns : goal.returns
returns c =
    let a = c.args in
    (ap (λ (l : ℕ). a.at + l) (sym (failed-length (record { name = a.name; cause = a.cause }))), failed-written a.out.now a.at a.name a.cause c.requires.0 c.put16.auto.s c.put16.ensures)
