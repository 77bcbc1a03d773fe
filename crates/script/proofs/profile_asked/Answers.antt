-- `script::profile_asked` meets its contract.
use Prim.Native.Nat.{ℕ}
use mathlib.Core.Path.{ap, ◌∙◌}
use Rattle.std.specs.declared.option.Option.{Option}
use Rattle.std.specs.Option.{unwrap_or}
use Rattle.script.proofs.Codes.{asked_first}
use Rattle.script.proofs.profile_asked.Goals as goal

pub returns : goal.returns
returns c =
    let first = c.copied.ensures ∙ c.first.ensures.value in
    c.unwrap_or.ensures ∙ ap (λ (o : Option ℕ). unwrap_or o 2) first ∙ asked_first c.args.body.now
