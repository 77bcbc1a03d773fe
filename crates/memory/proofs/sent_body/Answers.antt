-- `memory::sent_body` meets its contract.
use Prim.Native.Nat.{ℕ}
use mathlib.Core.Path.{ap, ap₂, ◌∙◌}
use lib.ListN.{drop}
use Rattle.std.proofs.lemmas.List.{drop_min}
use Rattle.meaning.specs.Profile.{on_wire}
use Rattle.octets.proofs.Splices.{rest_is_lem}
use Rattle.memory.proofs.sent_body.Goals as goal

pub returns : goal.returns
unfolding on_wire
returns c =
    let v = c.body-v.result.now in
    let spare = c.spared-spare in
    rest_is_lem v c.min.result ∙ ap (λ (n : ℕ). drop n v) c.min.ensures ∙ drop_min spare.result v ∙ ap₂ drop spare.ensures.0 c.body-v.ensures
