-- `schedule::ratio_of` meets its contract.
use Rattle.std.proofs.Common.{◌≡◌, ℕ, ◌-◌, length, take, drop, ap, ◌∙◌, arith}
use Rattle.meaning.specs.Octets.{part}
use Rattle.meaning.specs.Block.{ratio_of}
use Rattle.meaning.proofs.Lists.{length_part}
use Rattle.schedule.proofs.ratio_of.Goals as goal

pub returns : goal.returns
unfolding ratio_of part
returns c =
    let b = c.args.b.now in
    let h = c.requires in
    let last : take (length b - (length b - 8)) (drop (length b - 8) b) ≡ take 8 (drop (length b - 8) b) =
    ap (λ (n : ℕ). take n (drop (length b - 8) b)) {x = length b - (length b - 8)} {y = 8} (omega arith) in
    (last, ap length last ∙ length_part b (length b - 8) 8 (omega arith))
