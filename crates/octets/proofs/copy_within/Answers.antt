-- `octets::copy_within` meets its contract.
use Prim.Native.Nat.{ℕ, ◌+◌}
use native.Mathlib.Omega.{arith}
use mathlib.Core.Path.{sym, ap, ◌∙◌}
use Rattle.meaning.proofs.Lists.{length_part}
use Rattle.octets.proofs.Splices.{pasted}
use Rattle.octets.proofs.copy_within.Goals as goal

pub returns : goal.returns
returns c =
    let a = c.args in (
      ap (λ (k : ℕ). a.at + k) (sym (length_part a.s.now a.from a.n (omega (arith, c.requires.0, c.requires.1)))),
      c.copy_within.ensures.after ∙ pasted a.s.now a.from a.n a.at (omega (arith, c.requires.0, c.requires.1)),
    )
