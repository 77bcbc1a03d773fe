-- `soundness::flag_limit` meets its contract.
use Prim.Native.Nat.{ℕ}
use mathlib.Core.Bool.{Bool, cond}
use mathlib.Core.Logic.{◌⊎◌, inl, inr}
use mathlib.Core.Path.{◌≡◌, refl}
use Rattle.meaning.specs.Table.{by_port}
use Rattle.table.specs.declared.Owner.{Owner}
use Rattle.table.specs.declared.Owner.TheVariants.{Controller, Nobody}
use Rattle.table.specs.Rows.{owner_of}
use Rattle.soundness.proofs.flag_limit.Goals as goal

pub returns-in-Port : goal.returns-in-Port
unfolding by_port owner_of
returns-in-Port c = rw (c.in-Port.is, c.if-waiting.true) refl

pub returns-in-Port-2 : goal.returns-in-Port-2
unfolding by_port owner_of
returns-in-Port-2 c = rw (c.in-Port.is, c.if-waiting.false) refl

-- of the other two none sets it at the port
low : (o : Owner) (w : Bool) → (o ≡ Controller) ⊎ (o ≡ Nobody) → ◌≡◌ {A = ℕ} 4 (cond (by_port (owner_of o)) (cond w 16 8) 4)
unfolding by_port owner_of
low o w (inl e) = rw e refl
low o w (inr e) = rw e refl

pub returns-in-Controller : goal.returns-in-Controller
returns-in-Controller c = low c.args.owner c.args.waiting c.in-Controller.is
