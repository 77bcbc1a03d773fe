-- `schedule::Sums::on` meets its contract: the sums so far, with the total and the weights of what is left of the part, come to the
-- sums with those of the whole part.
use Rattle.std.proofs.Common.{◌≡◌, ◌+◌, ◌-◌, ◌%◌, ◌<◌, [], length, get_or, drop, sym, refl, ap, ◌∙◌, arith, drop_of_length-le, rules}
use Rattle.schedule.proofs.Weights.{total, weighed, total_turn, weighed_turn, added, first_is, second_is}
use Rattle.schedule.proofs.Sums.on.Goals as goal

pub loop-x-init : goal.loop-x-init
loop-x-init c =
    let p = c.args.part.now in
    record {
      weight = search rules;
      firsts = refl;
      seconds = added c.args.self.second c.args.self.first (length p) (weighed p);
    }

pub loop-x-preserved : goal.loop-x-preserved
loop-x-preserved c =
    let l = c.loop-x in
    let v = l.invariant in
    let p = c.args.part.now in
    let i = l.x-index in
    let h : i < length p = c.loop-x-test.true in
    let x = get_or p i 0 in
    let k = length p - i in
    record {
      weight = omega (arith, v.weight);
      firsts = omega (arith, c.from-x.ensures, total_turn p i h, v.firsts);
      seconds =
          rw (c.from-x.ensures, v.weight)
          (added l.second x k (weighed (drop (i + 1) p)) ∙ ap (λ n. (l.second + n) % 65536) (sym (weighed_turn p i h)) ∙ v.seconds);
    }

pub returns : goal.returns
unfolding total weighed
returns c =
    let l = c.loop-x in
    let p = c.args.part.now in
    let e : drop l.x-index p ≡ [] = drop_of_length-le p {i = l.x-index} (search rules) in
    let u = rw e at l.invariant.firsts in
    let v = rw e at l.invariant.seconds in
    let f = first_is c.args.self.first c.args.self.second p (omega arith) (omega arith) in
    let g = second_is c.args.self.first c.args.self.second p (omega arith) (omega arith) in
    (omega (arith, u, f), omega (arith, v, g))
