-- `desk::run` meets its contract.
use mathlib.Core.Path.{◌≡◌}
use lib.ListN.{length}
use Rattle.typed.specs.Forms.{Keeps}
use Rattle.desk.proofs.run.Given as goal

abbrev pub invariant-loop : goal.invariant-loop
invariant-loop g l =
    Keeps l.octets l.line × (length l.octets ≡ length l.initial.octets) × (length l.block ≡ length l.initial.block) × (length l.out ≡ length l.initial.out)
