-- `memory::store` meets its contract.
use Prim.Native.Nat.{ℕ}
use mathlib.Core.Path.{◌≡◌, ◌∙◌}
use mathlib.Core.Bool.{true, false, ◌||◌, or-false}
use mathlib.Core.List.{List}
use Rattle.meaning.specs.Memory.{subscribed, pending, in_flight, flags, put, store}
use Rattle.memory.proofs.store.Goals as goal

-- an entry put with the marks that were found
marked : (m : List ℕ) (k : ℕ) (v : List ℕ) {f : ℕ} {m' : List ℕ} → f ≡ flags true (subscribed m k) (pending m k || false) (in_flight m k)
    → m' ≡ put m k f v → m' ≡ store m k v
unfolding store
marked m k v e w = w ∙ rw (e, or-false)

pub returns : goal.returns
returns c =
    let a = c.args in
    marked a.m.now a.k a.v.now c.flags_with-f.ensures c.put.ensures
