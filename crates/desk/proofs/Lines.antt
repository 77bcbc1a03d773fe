-- Lines answered one after another: what is printed up to the next line feed and behind it, and a turn of the loop over them.
use Prim.Native.Nat.{ℕ, suc, ◌<◌}
use mathlib.Core.Path.{◌≡◌, refl, sym, ap, subst}
use mathlib.Core.Logic.{◌⊎◌, inl, inr}
use mathlib.Core.Bool.{Bool, true, false, ◌||◌, cond, false≢true}
use mathlib.Core.List.{List, [], ◌∷◌, ◌++◌}
use lib.ListN.{length, take}
use Rattle.typed.specs.declared.Form.{Form}
use Rattle.typed.specs.declared.Form.TheVariants.{Blank, Digit, Lead, Number, Numbered, Octets, Half, Refused, Other}
use Rattle.typed.specs.declared.Line.{Line}
use Rattle.typed.specs.Forms.{Small, Typed, fresh, typed, typed_all, typed_in}
use Rattle.typed.specs.Scanning.{is_feed, before_feed, has_feed, behind_feed}
use Rattle.words.specs.Lines.{message_lines, not_a_message}
use Rattle.desk.specs.Lines.{answer_by, answer_of, printed, last_of}

-- ---- what a line prints that stands for none of the others

pub other_form : (f : Form) (s : List ℕ) → (f ≡ Blank → ⊥) → ((n : ℕ) → f ≡ Refused n → ⊥) → ((n : ℕ) → f ≡ Number n → ⊥) → ((n : ℕ) → f ≡ Numbered n → ⊥) → (f ≡ Octets → ⊥)
    → answer_by f s ≡ not_a_message
unfolding answer_by
other_form Blank s b r n m o = absurd (b refl)
other_form (Digit h) s b r n m o = refl
other_form (Lead k) s b r n m o = refl
other_form (Number k) s b r n m o = absurd (n k refl)
other_form (Numbered k) s b r n m o = absurd (m k refl)
other_form Octets s b r n m o = absurd (o refl)
other_form (Half h) s b r n m o = refl
other_form (Refused k) s b r n m o = absurd (r k refl)
other_form Other s b r n m o = refl

-- a message, and a number and one
pub message_form : (f : Form) (s : List ℕ) → ((n : ℕ) × (f ≡ Number n)) ⊎ (((n : ℕ) × (f ≡ Numbered n)) ⊎ (f ≡ Octets)) → answer_by f s ≡ message_lines s
unfolding answer_by
message_form f s (inl h) = rw h.1
message_form f s (inr (inl h)) = rw h.1
message_form f s (inr (inr h)) = rw h

-- what a line prints, by its form
pub form-answer : (room : List ℕ) (l : Line) (f : Form) → l.form ≡ f → answer_of (typed_in room l) ≡ answer_by f (take l.count room)
unfolding answer_of
form-answer room l f e = ap (λ (x : Form). answer_by x (take l.count room)) e

pub refused-small : (f : Form) (n : ℕ) → f ≡ Refused n → Small f → n < 100
refused-small f n e h = subst Small e h

-- ---- up to a line feed, and behind it

pub printed_feed : (t : Typed) (s : List ℕ) → has_feed s ≡ true → printed t s ≡ answer_of (typed_all t (before_feed s)) ++ printed fresh (behind_feed s)
unfolding has_feed before_feed behind_feed printed typed_all
printed_feed t [] e = absurd (false≢true e)
printed_feed t (c ∷ s) e = go (is_feed c) e (λ h. printed_feed (typed t c) s h)
  where
    go : (b : Bool) → (b || has_feed s) ≡ true → (has_feed s ≡ true → printed (typed t c) s ≡ answer_of (typed_all (typed t c) (before_feed s)) ++ printed fresh (behind_feed s))
        → cond b (answer_of t ++ printed fresh s) (printed (typed t c) s) ≡ answer_of (typed_all t (cond b [] (c ∷ before_feed s))) ++ printed fresh (cond b s (behind_feed s))
    go true h ih = refl
    go false h ih = ih h

pub last_feed : (t : Typed) (s : List ℕ) → has_feed s ≡ true → last_of t s ≡ last_of fresh (behind_feed s)
unfolding has_feed behind_feed last_of
last_feed t [] e = absurd (false≢true e)
last_feed t (c ∷ s) e = go (is_feed c) e (λ h. last_feed (typed t c) s h)
  where
    go : (b : Bool) → (b || has_feed s) ≡ true → (has_feed s ≡ true → last_of (typed t c) s ≡ last_of fresh (behind_feed s))
        → cond b (last_of fresh s) (last_of (typed t c) s) ≡ last_of fresh (cond b s (behind_feed s))
    go true h ih = refl
    go false h ih = ih h

-- no line ends
abbrev pub Goes : Typed → List ℕ → Type 0
Goes t s = (printed t s ≡ []) × (last_of t s ≡ typed_all t (before_feed s)) × (behind_feed s ≡ []) × (length (before_feed s) ≡ length s)

pub no_feed : (t : Typed) (s : List ℕ) → has_feed s ≡ false → Goes t s
unfolding has_feed before_feed behind_feed printed last_of typed_all
no_feed t [] e = (refl, refl, refl, refl)
no_feed t (c ∷ s) e = go (is_feed c) e (λ h. no_feed (typed t c) s h)
  where
    go : (b : Bool) → (b || has_feed s) ≡ false → (has_feed s ≡ false → Goes (typed t c) s)
        → (cond b (answer_of t ++ printed fresh s) (printed (typed t c) s) ≡ []) × (cond b (last_of fresh s) (last_of (typed t c) s) ≡ typed_all t (cond b [] (c ∷ before_feed s)))
        × (cond b s (behind_feed s) ≡ []) × (length (cond b [] (c ∷ before_feed s)) ≡ suc (length s))
    go true h ih = absurd (false≢true (sym h))
    go false h ih = let g = ih h in (g.0, g.1, g.2, ap suc g.3)
