-- `typed::keep` meets its contract.
use Rattle.typed.proofs.Forms.{stores_one, stores_full}
use Rattle.typed.proofs.keep.Goals as goal

pub returns-then-count-lt-KEPT_MOST : goal.returns-then-count-lt-KEPT_MOST
returns-then-count-lt-KEPT_MOST c = stores_one c.args.room.now c.args.count c.args.x c.requires.0 c.if-count-lt-KEPT_MOST.true

pub returns : goal.returns
returns c = stores_full c.args.room.now c.args.count c.args.x c.requires.0 c.requires.1 c.if-count-lt-KEPT_MOST.false
