-- `soundness::sound` meets its contract.
use mathlib.Core.Path.{◌≡◌, sym, ◌∙◌}
use mathlib.Core.Bool.{true, false}
use Rattle.soundness.specs.Fields.{all_fields}
use Rattle.soundness.proofs.Entries.{sound_parts}
use Rattle.soundness.proofs.sound.Goals as goal

pub returns-then-all_fields : goal.returns-then-all_fields
returns-then-all_fields c =
    let m = c.args.m.now in
    let f : all_fields m ≡ true = sym c.all_fields.ensures ∙ c.if-all_fields.true in
    rw (c.all_tails.ensures, c.across_sound.ensures) (rw f at (sound_parts m c.told-m))

pub returns-else-all_fields : goal.returns-else-all_fields
returns-else-all_fields c =
    let m = c.args.m.now in
    let f : all_fields m ≡ false = sym c.all_fields.ensures ∙ c.if-all_fields.false in
    c.if-all_fields.false ∙ rw f at (sound_parts m c.told-m)
