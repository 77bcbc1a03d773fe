-- What is cut short makes an answer of `next` or `first`: nothing becomes the refusal, and what is there is taken on.
use mathlib.Core.Path.{◌≡◌, refl, sym, ◌∙◌}
use Rattle.std.specs.Prelude.{Option, Some, None, Result, Ok, Err, ok_or, IsErrAnd}
use Rattle.capture.specs.declared.Refusal.{Refusal}
use Rattle.capture.specs.declared.Refusal.TheVariants.{CutShort}

passed_up : {T : Type 0} (r : Result T Refusal) (x : Refusal) → IsErrAnd r (λ y. y ≡ x) → r ≡ Err x
passed_up (Ok t) x e = absurd e
passed_up (Err y) x e = cc e

module _ {A : Type 0} where
  -- by what `ok_or` makes of an option
  none-refused : (o : Option A) (x : Refusal) → ok_or o CutShort ≡ Err x → (None ≡ o) × (x ≡ CutShort)
  none-refused None x e = (refl, cc e)
  none-refused (Some a) x e = absurd (cc e)

  some-taken : (o : Option A) (a : A) → ok_or o CutShort ≡ Ok a → Some a ≡ o
  some-taken None a e = absurd (cc e)
  some-taken (Some b) a e = cc e

  module _ {T : Type 0} {o : Option A} {q : Result A Refusal} (k : q ≡ ok_or o CutShort) where
    pub cut_short : {r : Result T Refusal} {x : Refusal} → IsErrAnd r (λ y. y ≡ x) → q ≡ Err x → (r ≡ Err CutShort) × (None ≡ o)
    cut_short {r} {x} p e =
        let n = none-refused o x (sym k ∙ e) in
        (passed_up r x p ∙ rw n.1, n.0)

  pub taken : {o : Option A} {q : Result A Refusal} {a : A} → q ≡ ok_or o CutShort → q ≡ Ok a → Some a ≡ o
  taken {o} {q} {a} k e = some-taken o a (sym k ∙ e)
