-- The frames: each holds a message, which is taken over one memory and one room and answered with a line.
use Rattle.std.specs.Prelude.{true}
use Rattle.meaning.specs.Calls.{Outcome}
use Rattle.meaning.specs.FormB.{message}
use Rattle.stdio.specs.Taking.{Piece, Program}
use Rattle.answers.specs.Answers.{line_of, Port}

-- what the message of a frame is answered with
unfoldable pub outcome_of : Port → Piece → Outcome
outcome_of p frame = message p.memory frame.body p.room

-- a frame's head is its length, and every frame is taken
abbrev pub frames : Program Port
frames = record {
  head = 2;
  right = λ frame. true;
  line = λ p frame. line_of (outcome_of p frame);
  after = λ p frame. record { memory = (outcome_of p frame).memory; room = (outcome_of p frame).room };
}
