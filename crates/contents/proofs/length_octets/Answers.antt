-- `contents::length_octets` meets its contract.
use native.Mathlib.Omega.{arith}
use borrow.Author.Tests.{le-leb, lt-leb}
use Rattle.meaning.specs.Capture.{length_octets}
use Rattle.contents.proofs.length_octets.Goals as goal

pub returns-then-id-ge128 : goal.returns-then-id-ge128
unfolding length_octets
returns-then-id-ge128 c = (rw (le-leb 0x80 _ c.if-id-ge128.true), omega arith)

pub returns-then-id-ge112 : goal.returns-then-id-ge112
unfolding length_octets
returns-then-id-ge112 c = (rw (lt-leb 0x80 _ c.if-id-ge128.false, le-leb 0x70 _ c.if-id-ge112.true), omega arith)

pub returns : goal.returns
unfolding length_octets
returns c = (rw (lt-leb 0x80 _ c.if-id-ge128.false, lt-leb 0x70 _ c.if-id-ge112.false), omega arith)
