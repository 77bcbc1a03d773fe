-- `text::fill_hex` meets its contract.
use Prim.Native.Nat.{◌+◌, ◌*◌}
use native.Mathlib.Omega.{arith}
use mathlib.Core.Path.{◌≡◌, sym, ◌∙◌}
use Rattle.octets.proofs.Splices.{splice_all}
use Rattle.text.specs.Lines.{hex}
use Rattle.text.proofs.Writes.{hex-length, hex-turn, hex_end}
use Rattle.text.proofs.fill_hex.Goals as goal

pub loop-i-init : goal.loop-i-init
loop-i-init c = splice_all c.args.room.now (hex c.args.src.now) (omega (arith, hex-length c.args.src.now, c.requires))

pub loop-i-preserved : goal.loop-i-preserved
loop-i-preserved c =
    let l = c.loop-i in
    let e : 2 * (l.i + 1) ≡ 2 * l.i + 2 = omega arith in
    rw e (hex-turn l.room c.args.src.now (2 * l.i) l.i _ _ (omega (arith, c.requires, l.auto.room)) c.loop-i-test.true c.digit.ensures c.digit-in-loop-i.ensures ∙ l.invariant)

pub returns : goal.returns
returns c = sym (hex_end c.loop-i.room c.args.src.now (2 * c.loop-i.i) c.loop-i.i c.loop-i-test.false) ∙ c.loop-i.invariant
