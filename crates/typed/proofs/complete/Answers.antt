-- `typed::complete` meets its contract.
use native.Mathlib.Omega.{arith}
use mathlib.Core.Logic.{inl, inr}
use Rattle.typed.proofs.Forms.{first_small, completes, no_octet, stores_none}
use Rattle.typed.proofs.complete.Goals as goal

pub overflow_mul-h : goal.overflow_mul-h
overflow_mul-h c = omega (arith, first_small (inl c.in-Digit.is) c.requires.2)

pub overflow_add-h : goal.overflow_add-h
overflow_add-h c = omega (arith, first_small (inl c.in-Digit.is) c.requires.2)

pub returns-in-Digit : goal.returns-in-Digit
returns-in-Digit c = rw (completes c.args.d (inl c.in-Digit.is)) c.keep.ensures

pub overflow_mul-h-in-Half : goal.overflow_mul-h-in-Half
overflow_mul-h-in-Half c = omega (arith, first_small (inr c.in-Half.is) c.requires.2)

pub overflow_add-h-in-Half : goal.overflow_add-h-in-Half
overflow_add-h-in-Half c = omega (arith, first_small (inr c.in-Half.is) c.requires.2)

pub returns-in-Half : goal.returns-in-Half
returns-in-Half c = rw (completes c.args.d (inr c.in-Half.is)) c.keep-in-Half.ensures

pub returns-in_default : goal.returns-in_default
returns-in_default c =
    stores_none c.args.room.now c.args.count c.requires.0 c.requires.1 (no_octet c.args.form c.args.d c.in_default.not-Digit c.in_default.not-Half)
