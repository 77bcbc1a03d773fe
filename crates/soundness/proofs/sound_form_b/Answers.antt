-- `soundness::sound_form_b` meets its contract.
use native.Mathlib.Omega.{arith}
use mathlib.Core.Path.{◌≡◌, sym, ap, ap₂, ◌∙◌}
use mathlib.Core.Bool.{◌&&◌}
use Rattle.meaning.specs.Memory.{sound}
use Rattle.meaning.specs.Profile.{is_profile, bounded}
use Rattle.meaning.specs.FormB.{sound_form_b}
use Rattle.soundness.proofs.Entries.{another-form, form_tests}
use Rattle.soundness.proofs.sound_form_b.Goals as goal
use Rattle.soundness.proofs.sound_form_b.Goals.{After-is_profile}

pub returns-in_default : goal.returns-in_default
returns-in_default c = another-form c.args.b.now (λ h. omega (arith, h, c.in_default.ensures.cases))

pub returns-in_default-as_array : goal.returns-in_default-as_array
returns-in_default-as_array c =
    another-form c.args.b.now (λ h. c.in_default-as_array.ensures.cases (omega (arith, h, c.in-Some.ensures.cases.1)))

-- the octet ahead and the memory behind it
parts : (c : After-is_profile) → (is_profile c.in-Some.profile.now && (sound c.in-Some.behind.now && bounded c.in-Some.profile.now c.in-Some.behind.now)) ≡ sound_form_b c.args.b.now
parts c =
    rw c.in-Some.ensures.cases.0 (form_tests c.in-Some.profile.now c.in-Some.behind.now c.in-Some-as_array.ensures.cases.long)

pub returns-then-is_profile : goal.returns-then-is_profile
returns-then-is_profile c =
    let p = (goal.at.returns-then-is_profile c).After-is_profile in
    let e = c.in-Some-as_array.ensures.cases.same in
    ap₂ ◌&&◌ (c.sound.ensures ∙ ap sound e) (c.bounded.ensures ∙ ap (bounded c.in-Some.profile.now) e)
    ∙ rw (sym c.is_profile.ensures ∙ c.if-is_profile.true) at (parts p)

pub returns-else-is_profile : goal.returns-else-is_profile
returns-else-is_profile c =
    let p = (goal.at.returns-else-is_profile c).After-is_profile in
    c.if-is_profile.false ∙ rw (sym c.is_profile.ensures ∙ c.if-is_profile.false) at (parts p)
