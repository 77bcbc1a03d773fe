-- `schedule::list_of` meets its contract.
use Rattle.std.proofs.Common.{ℕ, ◌-◌, length, take, drop, ap, arith}
use Rattle.meaning.specs.Octets.{part}
use Rattle.meaning.specs.Block.{list_of}
use Rattle.schedule.proofs.list_of.Goals as goal

pub returns : goal.returns
unfolding list_of part
returns c =
    let b = c.args.b.now in
    ap (λ (n : ℕ). take n (drop 14 b)) {x = length b - 8 - 14} {y = length b - 22} (omega arith)
