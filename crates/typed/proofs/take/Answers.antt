-- `typed::take` meets its contract.
use Prim.Native.Nat.{◌<◌}
use mathlib.Core.Path.{sym, ◌∙◌}
use Rattle.typed.specs.Forms.{completed, Stores}
use Rattle.typed.proofs.Signs.{small_sign}
use Rattle.typed.proofs.Forms.{no_digit_completes, in_comment, comment-begins, goes_on, goes_on_bare}
use Rattle.typed.proofs.take.Goals as goal

pub returns-then-line : goal.returns-then-line
returns-then-line c =
    in_comment c.args.room.now c.args.line c.args.c c.requires c.if-line.true

pub returns-then-c-eq35 : goal.returns-then-c-eq35
returns-then-c-eq35 c =
    comment-begins c.args.room.now c.args.line c.args.c c.requires c.if-line.false c.if-c-eq35.true

pub returns-in_default : goal.returns-in_default
returns-in_default c =
    let s = c.sign_of-sign in
    goes_on_bare c.args.room.now c.args.line c.args.c c.requires s.result c.after-form.result
    c.if-line.false c.if-c-eq35.false s.ensures c.after-form.ensures (no_digit_completes c.args.line.form s.result c.in_default.not-Hex)

pub complete-requires : goal.complete-requires
complete-requires c =
    let h : c.in-Hex.d < 16 = rw (sym c.sign_of-sign.ensures ∙ c.in-Hex.is) at (small_sign c.args.c) in
    (c.requires.long, c.requires.within, c.requires.small, h)

pub returns : goal.returns
unfolding completed
returns c =
    let s = c.sign_of-sign in
    let w : Stores c.args.room.now c.args.line.count (completed c.args.line.form s.result) c.complete.result c.complete.new.room = rw c.in-Hex.is c.complete.ensures in
    goes_on c.args.room.now c.args.line c.args.c c.requires s.result c.after-form.result c.complete.result c.complete.new.room
    c.if-line.false c.if-c-eq35.false s.ensures c.after-form.ensures (c.complete.auto.room ∙ c.requires.long) w
