-- `stdio::next_piece` meets its contract. Its length is that of the head's last two octets.
use native.Mathlib.Omega.{arith}
use mathlib.Core.Path.{sym}
use Rattle.stdio.proofs.Held.{needed-head, needed-all, next-whole, next_more}
use Rattle.stdio.proofs.next_piece.Goals as goal

pub returns-then-left-head : goal.returns-then-left-head
returns-then-left-head c =
    let e = needed-head c.args.held.now c.args.from c.args.head (omega arith) in
    next_more c.args.held.now c.args.from c.args.head (sym e) (omega arith)

pub returns-then-left-size : goal.returns-then-left-size
returns-then-left-size c =
    let e = needed-all c.args.held.now c.args.from c.args.head (omega arith) in
    next_more c.args.held.now c.args.from c.args.head (sym e) (omega arith)

pub returns : goal.returns
returns c =
    let e = needed-all c.args.held.now c.args.from c.args.head (omega arith) in
    next-whole c.args.held.now c.args.from c.args.head (sym e) (omega arith) (omega arith)
