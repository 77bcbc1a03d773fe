-- `typed::sign_of` meets its contract.
use mathlib.Core.Path.{◌≡◌, sym, ap}
use borrow.Author.Rules.{rules}
use Rattle.typed.specs.Signs.{is_blank, sign_of}
use Rattle.typed.proofs.Signs.{decoded, is_space, stray}
use Rattle.typed.proofs.sign_of.Goals as goal

pub returns-then-d-lt16 : goal.returns-then-d-lt16
returns-then-d-lt16 c = sym (decoded _ _ c.digit-d.ensures c.if-d-lt16.true)

pub returns-in-32 : goal.returns-in-32
returns-in-32 c = sym (is_space c.in-32.is)

pub returns-in-45 : goal.returns-in-45
unfolding sign_of is_blank
returns-in-45 c = sym (ap sign_of c.in-45.is)

pub returns-in_default : goal.returns-in_default
returns-in_default c =
    let n : (c.args.c ≡ 32 → ⊥) × (c.args.c ≡ 9 → ⊥) × (c.args.c ≡ 13 → ⊥) × (c.args.c ≡ 45 → ⊥) = search rules in
    sym (stray _ _ c.digit-d.ensures c.if-d-lt16.false n)
