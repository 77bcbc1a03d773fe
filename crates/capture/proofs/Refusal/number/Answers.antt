-- `capture::Refusal::number` meets its contract.
use Rattle.capture.specs.Handing.{refusal_number}
use Rattle.capture.proofs.Refusal.number.Goals as goal

pub returns-in-MessageEmpty : goal.returns-in-MessageEmpty
unfolding refusal_number
returns-in-MessageEmpty c = rw c.in-MessageEmpty.is

pub returns-in-MessageTooLong : goal.returns-in-MessageTooLong
unfolding refusal_number
returns-in-MessageTooLong c = rw c.in-MessageTooLong.is

pub returns-in-TypeUnknown : goal.returns-in-TypeUnknown
unfolding refusal_number
returns-in-TypeUnknown c = rw c.in-TypeUnknown.is

pub returns-in-CutShort : goal.returns-in-CutShort
unfolding refusal_number
returns-in-CutShort c = rw c.in-CutShort.is
