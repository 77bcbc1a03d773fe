-- The instructions of a script, taken one after another over the memory and the room that are lent.
use Rattle.std.specs.Prelude.{length}
use Rattle.stdio.specs.Taking.{Piece, Program}
use Rattle.answers.specs.Answers.{Port}
use Rattle.script.specs.Instructions.{Effect, body_right, effect}

unfoldable pub effect_of : Port → Piece → Effect
effect_of p r = effect r.first r.body p.memory p.room

-- an instruction's head is its code and its length, and it is taken where its body is right
abbrev pub instructions : Program Port
instructions = record {
  head = 3;
  right = λ r. body_right r.first (length r.body);
  line = λ p r. (effect_of p r).line;
  after = λ p r. record { memory = (effect_of p r).memory; room = (effect_of p r).room };
}
