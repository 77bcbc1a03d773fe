-- `contents::walk` meets its contract. What is to be read from the place on is what was to be read behind the type.
use Prim.Native.Nat.{◌-◌, ◌≤◌}
use mathlib.Core.Path.{◌≡◌}
use lib.ListN.{length, drop}
use Rattle.meaning.specs.Capture.{elements_of}
use Rattle.contents.specs.Spans.{span, standing}
use Rattle.contents.proofs.Elements.{read_from}
use Rattle.contents.proofs.walk.Given as goal

abbrev pub invariant-loop-at : goal.invariant-loop-at
invariant-loop-at l =
    (1 ≤ l.at) × (l.at ≤ length l.s) × (read_from l.s l.k l.at ≡ elements_of (standing (length l.s)) (span 0 0) (drop 1 l.s))

abbrev pub decreases-loop-at : goal.decreases-loop-at
decreases-loop-at l = length l.s - l.at
