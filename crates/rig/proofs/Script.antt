-- Memory as the rig lends it first.
use Prim.Native.Nat.{ℕ}
use mathlib.Core.Path.{◌≡◌, refl, sym, ap, ◌∙◌}
use mathlib.Core.Logic.{inl}
use mathlib.Core.List.{List}
use lib.ListN.{length}
use Rattle.meaning.specs.Memory.{fresh}
use Rattle.meaning.specs.Profile.{release18}
use Rattle.meaning.specs.Calls.{Outcome}
use Rattle.meaning.specs.FormB.{form_length, ahead, make_fresh}
use Rattle.meaning.proofs.Contents.{fresh_spelt}
use Rattle.meaning.proofs.Formed.{make_fresh_forms}

-- memory of the right length made fresh in the profile of Release 18
pub made_fresh : (b : List ℕ) → length b ≡ form_length → (make_fresh b release18).memory ≡ ahead release18 fresh
made_fresh b h = ap (λ (o : Outcome). o.memory) (make_fresh_forms b release18 h (inl refl)) ∙ sym (ap (ahead release18) fresh_spelt)
