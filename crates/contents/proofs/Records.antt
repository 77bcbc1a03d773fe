-- Values that stand one after another from a place up to another: one at the front, several, as many as there are.
use Prim.Native.Nat.{ℕ, zero, suc, ◌+◌, ◌-◌, ◌≤◌, ◌<◌}
use native.Mathlib.Decide.{dec_le}
use native.Mathlib.Omega.{arith}
use mathlib.Core.Path.{◌≡◌, refl, sym, ap, ◌∙◌}
use mathlib.Core.Bool.{true, false}
use mathlib.Core.List.{List, ◌∷◌}
use mathlib.Core.Option.{Option, none, some}
use lib.ListN.{length, drop_of_length-le}
use Rattle.meaning.specs.Octets.{at16}
use Rattle.meaning.specs.Reply.{Held}
use Rattle.meaning.specs.Capture.{then_read, is_there, sized, front_held, several, until_end_in, until_end}
use Rattle.contents.specs.declared.Span.{Span}
use Rattle.std.specs.Prelude.{Option as Returned, Some, None}
use Rattle.contents.specs.Spans.{octets_of, spanned, place_after, is_whole}
use Rattle.contents.proofs.Between.{between, between_none, between-length, between-drop, between_front, part-at16}
use Rattle.contents.proofs.Lengths.{Found, found, sized_nothing}
use Rattle.contents.proofs.Onward.{held_leaves, until_step}

-- ---- a value at the front

module _ (s : List ℕ) (at to w : ℕ) (l : to ≤ length s) where
  pub held-short : at ≤ to → to - at < 2 → 1 ≤ w → front_held w (between s at to) ≡ none
  unfolding front_held then_read
  held-short h b g = rw (drop_of_length-le (between s at to) {i = 2} (omega (arith, between-length s at to l h)), sized_nothing w g)

  module _ (b : at + 2 ≤ to) where
    pub held_cut : Found s (at + 2) to w None → front_held w (between s at to) ≡ none
    unfolding front_held then_read
    held_cut f = rw (between-drop s at to l 2 b, f)

    pub held_found : (p : Span) → Found s (at + 2) to w (Some p)
        → front_held w (between s at to) ≡ some (record { name = at16 s at; value = octets_of s p }, between s p.to to)
    unfolding front_held then_read
    held_found p f = rw (between-drop s at to l 2 b, f.0, part-at16 s at (to - at) (omega arith))

-- ---- several

module _ {A : Type 0} (one : List ℕ → Option (A × List ℕ)) where
  several_cut : (n : ℕ) (t : List ℕ) → 1 ≤ n → one t ≡ none → several one n t ≡ none
  unfolding several then_read
  several_cut zero t h e = absurd (omega arith)
  several_cut (suc n) t h e = rw e

  place-more : (to : ℕ) (a : A) (o : Option (List A × List ℕ)) → place_after to (then_read o (λ q. some (a ∷ q.0, q.1))) ≡ place_after to o
  unfolding place_after then_read
  place-more to a none = refl
  place-more to a (some q) = refl

  -- behind one of them, one fewer
  several_on : (to n : ℕ) (t r : List ℕ) (a : A) → 1 ≤ n → one t ≡ some (a, r) → place_after to (several one (n - 1) r) ≡ place_after to (several one n t)
  unfolding several then_read
  several_on to zero t r a h e = absurd (omega arith)
  several_on to (suc n) t r a h e =
      let m : suc n - 1 ≡ n = omega arith in
      rw (m, e) (sym (place-more to a (several one n r)))

  several_only : (to : ℕ) (t : List ℕ) → place_after to (several one 1 t) ≡ place_after to (one t)
  several_only to t = only (one t) refl
    where
      only : (o : Option (A × List ℕ)) → one t ≡ o → place_after to (several one 1 t) ≡ place_after to o
      only none e = ap (place_after to) (several_cut 1 t (omega arith) e) ∙ unfold place_after in refl
      only (some a) e = sym (several_on to 1 t a.1 a.0 (omega arith) e) ∙ unfold several place_after in refl

-- where n values end that stand from a place up to another
abbrev pub end_of : List ℕ → ℕ → ℕ → ℕ → ℕ → Returned ℕ
end_of s at to w n = place_after to (several (front_held w) n (between s at to))

module _ (s : List ℕ) (at to w n : ℕ) (l : to ≤ length s) where
  pub pass_end : at ≤ to → n ≤ 0 → Some at ≡ end_of s at to w n
  unfolding several place_after
  pass_end h z =
      let e : n ≡ 0 = omega arith in
      rw (e, between-length s at to l h) (ap Some (omega arith))

  module _ (g : 1 ≤ n) where
    none_there : front_held w (between s at to) ≡ none → None ≡ end_of s at to w n
    unfolding place_after
    none_there e = rw (several_cut (front_held w) n (between s at to) g e)

    pub pass-short : at ≤ to → to - at < 2 → 1 ≤ w → None ≡ end_of s at to w n
    pass-short h b f = none_there (held-short s at to w l h b f)

    pub pass_cut : at + 2 ≤ to → Found s (at + 2) to w None → None ≡ end_of s at to w n
    pass_cut b f = none_there (held_cut s at to w l b f)

    pub pass_on : (p : Span) → at + 2 ≤ to → Found s (at + 2) to w (Some p) → end_of s p.to to w (n - 1) ≡ end_of s at to w n
    pass_on p b f = several_on (front_held w) to n (between s at to) (between s p.to to) _ g (held_found s at to w l b p f)

-- ---- what is left behind them stands in the message too

-- the octets left, if something is read, are those from a place on that is not before `from`
abbrev pub Behind : {A : Type 0} → List ℕ → ℕ → ℕ → Option (A × List ℕ) → Type 0
Behind s from to none = Unit {0}
Behind s from to (some a) = (end : ℕ) × (from ≤ end) × (end ≤ to) × (a.1 ≡ between s end to)

behind_more : {A : Type 0} (s : List ℕ) (from to : ℕ) (a : A) (o : Option (List A × List ℕ)) → Behind s from to o
    → Behind s from to (then_read o (λ q. some (a ∷ q.0, q.1)))
unfolding then_read
behind_more s from to a none b = tt
behind_more s from to a (some q) b = b

behind-after : {A : Type 0} (s : List ℕ) (from after to : ℕ) (o : Option (A × List ℕ)) → from ≤ after → Behind s after to o → Behind s from to o
behind-after s from after to none h b = tt
behind-after s from after to (some a) h b = (b.0, omega (arith, b.1), b.2, b.3)

module _ (s : List ℕ) (to w : ℕ) (l : to ≤ length s) (g : 1 ≤ w) where
  held-behind : (at : ℕ) → at ≤ to → Behind s (at + 2) to (front_held w (between s at to))
  held-behind at h = go (dec_le (at + 2) to)
    where
      known : at + 2 ≤ to → (r : Returned Span) → Found s (at + 2) to w r → Behind s (at + 2) to (front_held w (between s at to))
      known b None f = rw (held_cut s at to w l b f) tt
      known b (Some p) f = rw (held_found s at to w l b p f) (p.to, omega (arith, f.1, f.2), f.3, refl)

      go : Dec (at + 2 ≤ to) → Behind s (at + 2) to (front_held w (between s at to))
      go (yes b) = known b (spanned to (sized w (between s (at + 2) to))) (found s (at + 2) to w b l _ refl)
      go (no b) = rw (held-short s at to w l h (omega arith) g) tt

  pub several-behind : (n at : ℕ) → at ≤ to → Behind s at to (several (front_held w) n (between s at to))
  unfolding several then_read
  several-behind zero at h = (at, omega arith, h, refl)
  several-behind (suc n) at h = go (front_held w (between s at to)) (held-behind at h) (λ next. several-behind n next)
    where
      go : (o : Option (Held × List ℕ)) → Behind s (at + 2) to o → ((next : ℕ) → next ≤ to → Behind s next to (several (front_held w) n (between s next to)))
          → Behind s at to (then_read o (λ a. then_read (several (front_held w) n a.1) (λ q. some (a.0 ∷ q.0, q.1))))
      go none b more = tt
      go (some a) b more =
          let o = several (front_held w) n (between s b.0 to) in
          rw b.3 (behind_more s at to a.0 o (behind-after s at b.0 to o (omega (arith, b.1)) (more b.0 b.2)))

-- what was read where a place is told, and where none is
pub told_none : {A : Type 0} (to : ℕ) (o : Option (A × List ℕ)) → None ≡ place_after to o → o ≡ none
unfolding place_after
told_none to none e = refl
told_none to (some a) e = let z : ◌≡◌ {A = ℕ} 0 1 = cc in absurd (omega arith)

pub told_some : {A : Type 0} (s : List ℕ) (from to : ℕ) → to ≤ length s → (o : Option (A × List ℕ)) (end : ℕ) → Some end ≡ place_after to o → Behind s from to o
    → (a : A) × (o ≡ some (a, between s end to)) × (from ≤ end) × (end ≤ to)
unfolding place_after
told_some s from to l none end e b = let z : ◌≡◌ {A = ℕ} 0 1 = cc in absurd (omega arith)
told_some s from to l (some a) end e b =
    let i : end ≡ to - length a.1 = cc in
    let j : length a.1 ≡ to - b.0 = ap length b.3 ∙ between-length s b.0 to l b.2 in
    let k : end ≡ b.0 = omega (arith, i, j, b.2) in
    (a.0, rw k (ap (λ (r : List ℕ). some (a.0, r)) b.3), rw k b.1, rw k b.2)

-- ---- whole values up to a place

there_more : {A : Type 0} (a : A) (o : Option (List A)) → is_there (then_read o (λ q. some (a ∷ q))) ≡ is_there o
unfolding then_read
there_more a none = refl
there_more a (some q) = refl

module _ (s : List ℕ) (at to : ℕ) where
  pub whole_end : to ≤ at → is_whole (between s at to) ≡ true
  unfolding is_whole until_end until_end_in
  whole_end h = rw (between_none s at to h)

  module _ (l : to ≤ length s) (h : at < to) where
    front_first : (o : Option (Held × List ℕ)) → front_held 2 (between s at to) ≡ o
        → is_whole (between s at to) ≡ is_there (then_read o (λ a. then_read (until_end (front_held 2) a.1) (λ hs. some (a.0 ∷ hs))))
    unfolding is_whole
    front_first o e = rw (between_front s at to l h, until_step (front_held 2) (held_leaves 2), ← between_front s at to l h, e)

    pub whole_cut : None ≡ end_of s at to 2 1 → is_whole (between s at to) ≡ false
    unfolding then_read
    whole_cut e = front_first none (told_none to _ (e ∙ several_only (front_held 2) to (between s at to)))

    pub whole_on : (end : ℕ) → Some end ≡ end_of s at to 2 1 → (is_whole (between s end to) ≡ is_whole (between s at to)) × (at < end) × (end ≤ to)
    unfolding then_read is_whole
    whole_on end e =
        let t = told_some s (at + 2) to l _ end (e ∙ several_only (front_held 2) to (between s at to)) (held-behind s to 2 l (omega arith) at (omega arith)) in
        (sym (front_first (some (t.0, between s end to)) t.1 ∙ there_more t.0 (until_end (front_held 2) (between s end to))), omega (arith, t.2), t.3)
