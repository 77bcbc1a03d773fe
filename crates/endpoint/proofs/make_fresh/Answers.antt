-- `endpoint::make_fresh` meets its contract.
use mathlib.Core.Path.{◌≡◌, refl, sym, ap, ◌∙◌}
use mathlib.Core.Logic.{◌⊎◌}
use mathlib.Core.List.{[], ◌∷◌}
use Rattle.meaning.proofs.Contents.{fresh_spelt}
use Rattle.meaning.proofs.Formed.{profile_opened, profile_none, make_fresh_unformed, make_fresh_unknown, make_fresh_forms}
use Rattle.endpoint.specs.declared.Done.TheVariants.{Written}
use Rattle.endpoint.specs.declared.Refusal.TheVariants.{MemoryUnsound, ProfileUnknown}
use Rattle.endpoint.proofs.Exits.{gives_number, gives_left}
use Rattle.endpoint.proofs.make_fresh.Goals as goal
use Rattle.endpoint.proofs.make_fresh.Goals.{Else-not-is_profile}

known : (c : Else-not-is_profile) → (c.args.profile ≡ 2) ⊎ (c.args.profile ≡ 3)
known c = profile_opened _ (sym c.is_profile.ensures ∙ c.if-not-is_profile.false)

pub returns-then-memory-ne-MEMORY_LENGTH : goal.returns-then-memory-ne-MEMORY_LENGTH
returns-then-memory-ne-MEMORY_LENGTH c =
    let a = c.args in
    gives_number a.memory.now [] 1 MemoryUnsound (make_fresh_unformed a.memory.now a.profile c.if-memory-ne-MEMORY_LENGTH.true) refl refl

pub returns-then-not-is_profile : goal.returns-then-not-is_profile
returns-then-not-is_profile c =
    let a = c.args in
    let n = profile_none a.profile (sym c.is_profile.ensures ∙ c.if-not-is_profile.true) in
    gives_number a.memory.now [] 18 ProfileUnknown (make_fresh_unknown a.memory.now a.profile c.if-memory-ne-MEMORY_LENGTH.false n.0 n.1) refl refl

pub returns : goal.returns
returns c =
    let a = c.args in
    gives_left _ 0 (Written 0) (make_fresh_forms a.memory.now a.profile c.if-memory-ne-MEMORY_LENGTH.false (known (goal.at.returns c).Else-not-is_profile)) refl refl
    (ap (λ m. a.profile ∷ m) (c.make_fresh.ensures ∙ fresh_spelt))
