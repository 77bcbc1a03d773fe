-- `script::read` meets its contract: each row's code is that of its instruction, and its test that of the body's length.
use mathlib.Core.Path.{sym}
use Rattle.std.proofs.Common.{rules, tests}
use Rattle.script.specs.Instructions.{body_right}
use Rattle.script.specs.declared.Call.TheVariants.{Fresh, Message, LocalValue, Build, Expiry, MessageInFull}
use Rattle.script.specs.declared.Shown.TheVariants.{Memory, Room, Delay, Gates}
use Rattle.script.specs.declared.Move.TheVariants.{Forward, Back}
use Rattle.script.specs.declared.Instruction.TheVariants.{Call, Lend, Show, Move}
use Rattle.script.proofs.Codes.{reads}
use Rattle.script.proofs.read.Goals as goal

pub returns-in-0 : goal.returns-in-0
unfolding body_right
returns-in-0 c = rw c.then_some.ensures (reads c.args.code c.args.n (Call Fresh) _ (sym c.in-0.is) (rw c.in-0.is))

pub returns-in-1 : goal.returns-in-1
unfolding body_right
returns-in-1 c = rw c.then_some-in-1.ensures (reads c.args.code c.args.n (Call Message) _ (sym c.in-1.is) (rw c.in-1.is))

pub returns-in-2 : goal.returns-in-2
unfolding body_right
returns-in-2 c = rw c.then_some-in-2.ensures (reads c.args.code c.args.n (Call LocalValue) _ (sym c.in-2.is) (rw c.in-2.is))

pub returns-in-3 : goal.returns-in-3
unfolding body_right
returns-in-3 c = rw c.then_some-in-3.ensures (reads c.args.code c.args.n (Call Build) _ (sym c.in-3.is) (rw c.in-3.is))

pub returns-in-4 : goal.returns-in-4
unfolding body_right
returns-in-4 c = rw c.then_some-in-4.ensures (reads c.args.code c.args.n (Call Expiry) _ (sym c.in-4.is) (rw c.in-4.is))

pub returns-in-5 : goal.returns-in-5
unfolding body_right
returns-in-5 c = rw c.then_some-in-5.ensures (reads c.args.code c.args.n Lend _ (sym c.in-5.is) (rw c.in-5.is))

pub returns-in-6 : goal.returns-in-6
unfolding body_right
returns-in-6 c = rw c.then_some-in-6.ensures (reads c.args.code c.args.n (Show Memory) _ (sym c.in-6.is) (rw c.in-6.is))

pub returns-in-7 : goal.returns-in-7
unfolding body_right
returns-in-7 c = rw c.then_some-in-7.ensures (reads c.args.code c.args.n (Show Room) _ (sym c.in-7.is) (rw c.in-7.is))

pub returns-in-8 : goal.returns-in-8
unfolding body_right
returns-in-8 c = rw c.then_some-in-8.ensures (reads c.args.code c.args.n (Show Delay) _ (sym c.in-8.is) (rw c.in-8.is))

pub returns-in-9 : goal.returns-in-9
unfolding body_right
returns-in-9 c = rw c.then_some-in-9.ensures (reads c.args.code c.args.n (Call MessageInFull) _ (sym c.in-9.is) (rw c.in-9.is))

pub returns-in-10 : goal.returns-in-10
unfolding body_right
returns-in-10 c = rw c.then_some-in-10.ensures (reads c.args.code c.args.n (Show Gates) _ (sym c.in-10.is) (rw c.in-10.is))

pub returns-in-11 : goal.returns-in-11
unfolding body_right
returns-in-11 c = rw c.then_some-in-11.ensures (reads c.args.code c.args.n (Move Forward) _ (sym c.in-11.is) (rw c.in-11.is))

pub returns-in-12 : goal.returns-in-12
unfolding body_right
returns-in-12 c = rw c.then_some-in-12.ensures (reads c.args.code c.args.n (Move Back) _ (sym c.in-12.is) (rw c.in-12.is))

pub returns-in_default : goal.returns-in_default
unfolding body_right
returns-in_default c = search (tests, rules)
