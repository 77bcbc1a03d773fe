-- `soundness::timer_sound` meets its contract.
use native.Mathlib.Omega.{arith}
use mathlib.Core.Path.{refl}
use borrow.Author.Tests.{ne_eqb}
use Rattle.meaning.specs.Memory.{timer_sound}
use Rattle.soundness.proofs.timer_sound.Goals as goal

pub returns-in-1 : goal.returns-in-1
unfolding timer_sound
returns-in-1 c = rw c.in-1.is refl

pub returns-in-0 : goal.returns-in-0
unfolding timer_sound
returns-in-0 c = rw c.in-0.is refl

pub returns-in_default : goal.returns-in_default
unfolding timer_sound
returns-in_default c =
    rw (ne_eqb c.args.waiting 1 (λ e. omega (arith, e)), ne_eqb c.args.waiting 0 (λ e. omega (arith, e))) refl
