-- `contents::keep` meets its contract.
use native.Mathlib.Omega.{arith}
use Rattle.contents.proofs.Elements.{keep-below, keep_unknown, keep-names, keep-status, keep-result}
use Rattle.contents.proofs.keep.Goals as goal

pub returns-then-id-k : goal.returns-then-id-k
returns-then-id-k c = keep-below _ _ _ (omega arith)

pub returns-in-112 : goal.returns-in-112
returns-in-112 c = keep-names _ _ _ c.if-id-k.false c.in-112.is

pub returns-in-113 : goal.returns-in-113
returns-in-113 c = keep-status _ _ _ c.if-id-k.false c.in-113.is

pub returns-in-114 : goal.returns-in-114
returns-in-114 c = keep-result _ _ _ c.if-id-k.false c.in-114.is

pub returns-in_default : goal.returns-in_default
returns-in_default c = keep_unknown _ _ _ (λ e. omega arith) (λ e. omega arith) (λ e. omega arith)
