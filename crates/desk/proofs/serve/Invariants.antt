-- `desk::serve` meets its contract.
use Prim.Native.Nat.{◌-◌, ◌≤◌}
use mathlib.Core.Path.{◌≡◌}
use lib.ListN.{length, drop}
use Rattle.typed.specs.Forms.{typed_in, Keeps}
use Rattle.desk.specs.Lines.{last_of}
use Rattle.desk.proofs.serve.Given as goal

abbrev pub invariant-loop-read : goal.invariant-loop-read
invariant-loop-read g l =
    Keeps l.octets l.read × (l.from ≤ length l.held) × (last_of (typed_in l.octets l.read) (drop l.from l.held) ≡ last_of (typed_in l.initial.octets l.initial.read) l.held) × (length l.out ≡ 131081)

abbrev pub decreases-loop-read : goal.decreases-loop-read
decreases-loop-read g l = length l.held - l.from
