-- `gates::gates_at` meets its contract.
use Prim.Native.Nat.{ℕ}
use native.Mathlib.Omega.{arith}
use mathlib.Core.Path.{◌≡◌, sym, ap, ◌∙◌}
use mathlib.Core.Bool.{true}
use mathlib.Core.List.{List}
use lib.ListN.{length, length-drop}
use Rattle.std.proofs.lemmas.Option.{MatchOption-at_some}
use mir.Facts.{to_z-of_z}
use Rattle.meaning.specs.FormB.{profile_of, behind, sound_form_b}
use Rattle.meaning.proofs.Profiles.{in_sound}
use Rattle.meaning.proofs.Formed.{form_opened, sound-form, sound_opened, gates_1, gates-sound}
use Rattle.octets.proofs.Splices.{rest_is_lem}
use Rattle.gates.specs.Answers.{refusal_number, answer_of, running}
use Rattle.gates.proofs.Asked.{gates-asked}
use Rattle.gates.proofs.gates_at.Goals as goal
use Rattle.gates.proofs.gates_at.Goals.{Else-not-sound_form_b}

form-long : (b : List ℕ) → sound_form_b b ≡ true → length b ≡ 2101
form-long b e = (form_opened b (sound-form b e)).long

tested : (c : Else-not-sound_form_b) → sound_form_b c.args.memory.now ≡ true
tested c = sym c.sound_form_b.ensures ∙ c.if-not-sound_form_b.false

pub returns-then-not-sound_form_b : goal.returns-then-not-sound_form_b
unfolding answer_of refusal_number
returns-then-not-sound_form_b c = sym (gates_1 _ _ (sym c.sound_form_b.ensures ∙ c.if-not-sound_form_b.true))

pub slice_bounds-as_array-count : goal.slice_bounds-as_array-count
slice_bounds-as_array-count c = omega (arith, form-long _ (tested c))

pub slice_bounds-as_array-start : goal.slice_bounds-as_array-start
slice_bounds-as_array-start c = omega (arith, form-long _ (tested c))

pub unwrap-m-requires : goal.unwrap-m-requires
unwrap-m-requires c =
    let b = c.args.memory.now in
    c.as_array.ensures.variant.1 (ap length (rest_is_lem b 1) ∙ length-drop 1 b ∙ omega (arith, form-long b (tested (goal.at.unwrap-m-requires c).Else-not-sound_form_b)))

pub ask_memory-requires : goal.ask_memory-requires
ask_memory-requires c =
    let b = c.args.memory.now in
    let m = MatchOption-at_some _ _ _ c.unwrap-m.ensures c.as_array.ensures.cases in
    rw (m.same ∙ rest_is_lem b 1) (in_sound (profile_of b) (behind b) (sound_opened b (tested (goal.at.ask_memory-requires c).Else-not-sound_form_b)).1)

pub returns : goal.returns
returns c =
    let b = c.args.memory.now in
    let s = tested (goal.at.returns c).Else-not-sound_form_b in
    let m = MatchOption-at_some _ _ _ c.unwrap-m.ensures c.as_array.ensures.cases in
    (rw (to_z-of_z c.ranges.instant) at c.ask_memory.ensures)
    ∙ ap (λ (l : List ℕ). running l c.args.instant) (m.same ∙ rest_is_lem b 1)
    ∙ sym (gates-sound b c.args.instant s ∙ gates-asked (profile_of b) (behind b) c.args.instant (sound_opened b s).1)
