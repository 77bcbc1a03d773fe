-- `schedule::Sums::on` meets its contract: the sums so far, with the total and the weights of what is left of the part, come to the
-- sums with those of the whole part.
use Rattle.std.proofs.Common.{◌≡◌, ◌+◌, ◌-◌, ◌*◌, ◌%◌, length, drop}
use Rattle.schedule.proofs.Weights.{total, weighed}
use Rattle.schedule.proofs.Sums.on.Given as goal

abbrev pub invariant-loop-x : goal.invariant-loop-x
invariant-loop-x l = record {
  weight : l.left ≡ (length l.part - l.x-index) % 65536;
  firsts : (l.first + total (drop l.x-index l.part)) % 65536 ≡ (l.fn.self.first + total l.part) % 65536;
  seconds : (l.second + weighed (drop l.x-index l.part)) % 65536 ≡ (l.fn.self.second + (l.fn.self.first * length l.part + weighed l.part)) % 65536;
}
