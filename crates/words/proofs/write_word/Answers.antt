-- `words::write_word` meets its contract.
use native.Mathlib.Omega.{arith}
use mathlib.Core.Path.{refl}
use Rattle.octets.specs.Letters.{letters}
use Rattle.words.specs.Words.{parameters, word_at}
use Rattle.words.proofs.Written.{arm, word_past}
use Rattle.words.proofs.write_word.Goals as goal

pub returns-in-0 : goal.returns-in-0
unfolding word_at parameters letters
returns-in-0 c =
    rw (arm 0 _ c.place_of-k.ensures c.in-0.is) c.print.ensures

pub returns-in-1 : goal.returns-in-1
unfolding word_at parameters letters
returns-in-1 c =
    rw (arm 1 _ c.place_of-k.ensures c.in-1.is) c.print-in-1.ensures

pub returns-in-2 : goal.returns-in-2
unfolding word_at parameters letters
returns-in-2 c =
    rw (arm 2 _ c.place_of-k.ensures c.in-2.is) c.print-in-2.ensures

pub returns-in-3 : goal.returns-in-3
unfolding word_at parameters letters
returns-in-3 c =
    rw (arm 3 _ c.place_of-k.ensures c.in-3.is) c.print-in-3.ensures

pub returns-in-4 : goal.returns-in-4
unfolding word_at parameters letters
returns-in-4 c =
    rw (arm 4 _ c.place_of-k.ensures c.in-4.is) c.print-in-4.ensures

pub returns-in-5 : goal.returns-in-5
unfolding word_at parameters letters
returns-in-5 c =
    rw (arm 5 _ c.place_of-k.ensures c.in-5.is) c.print-in-5.ensures

pub returns-in-6 : goal.returns-in-6
unfolding word_at parameters letters
returns-in-6 c =
    rw (arm 6 _ c.place_of-k.ensures c.in-6.is) c.print-in-6.ensures

pub returns-in-7 : goal.returns-in-7
unfolding word_at parameters letters
returns-in-7 c =
    rw (arm 7 _ c.place_of-k.ensures c.in-7.is) c.print-in-7.ensures

pub returns-in-8 : goal.returns-in-8
unfolding word_at parameters letters
returns-in-8 c =
    rw (arm 8 _ c.place_of-k.ensures c.in-8.is) c.print-in-8.ensures

pub returns-in-9 : goal.returns-in-9
unfolding word_at parameters letters
returns-in-9 c =
    rw (arm 9 _ c.place_of-k.ensures c.in-9.is) c.print-in-9.ensures

pub returns-in-10 : goal.returns-in-10
unfolding word_at parameters letters
returns-in-10 c =
    rw (arm 10 _ c.place_of-k.ensures c.in-10.is) c.print-in-10.ensures

pub returns-in-11 : goal.returns-in-11
unfolding word_at parameters letters
returns-in-11 c =
    rw (arm 11 _ c.place_of-k.ensures c.in-11.is) c.print-in-11.ensures

pub returns-in-12 : goal.returns-in-12
unfolding word_at parameters letters
returns-in-12 c =
    rw (arm 12 _ c.place_of-k.ensures c.in-12.is) c.print-in-12.ensures

pub returns-in-13 : goal.returns-in-13
unfolding word_at parameters letters
returns-in-13 c =
    rw (arm 13 _ c.place_of-k.ensures c.in-13.is) c.print-in-13.ensures

pub returns-in-14 : goal.returns-in-14
unfolding word_at parameters letters
returns-in-14 c =
    rw (arm 14 _ c.place_of-k.ensures c.in-14.is) c.print-in-14.ensures

pub returns-in-15 : goal.returns-in-15
unfolding word_at parameters letters
returns-in-15 c =
    rw (arm 15 _ c.place_of-k.ensures c.in-15.is) c.print-in-15.ensures

pub returns-in-16 : goal.returns-in-16
unfolding word_at parameters letters
returns-in-16 c =
    rw (arm 16 _ c.place_of-k.ensures c.in-16.is) c.print-in-16.ensures

pub returns-in-17 : goal.returns-in-17
unfolding word_at parameters letters
returns-in-17 c =
    rw (arm 17 _ c.place_of-k.ensures c.in-17.is) c.print-in-17.ensures

pub returns-in-18 : goal.returns-in-18
unfolding word_at parameters letters
returns-in-18 c =
    rw (arm 18 _ c.place_of-k.ensures c.in-18.is) c.print-in-18.ensures

pub returns-in_default : goal.returns-in_default
unfolding letters
returns-in_default c = rw (arm c.place_of-k.result _ c.place_of-k.ensures refl, word_past c.place_of-k.result (omega arith)) c.print-in_default.ensures
