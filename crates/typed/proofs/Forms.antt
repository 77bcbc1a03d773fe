-- An octet taken: forms that a `match` does not name, octets that are kept, and a law for each way in which a line goes on.
use Prim.Native.Nat.{ℕ, ◌+◌, ◌*◌, ◌≤◌, ◌<◌}
use native.Mathlib.Numerals.{add-one}
use native.Mathlib.Omega.{arith}
use mathlib.Core.Path.{◌≡◌, refl, sym, subst, ◌∙◌}
use mathlib.Core.Bool.{Bool, true, false, ◌&&◌, cond}
use mathlib.Core.Logic.{◌⊎◌, inl, inr}
use mathlib.Core.List.{List, [], ◌∷◌, ◌++◌, append-nil}
use lib.ListN.{length, take, set, length-append}
use lib.Seq.{take-suc-set, take_all, take-append-le, length-take-le}
use lib.Dec.{eqb, ltb}
use borrow.Author.Tests.{ltb-true, ne_eqb}
use Rattle.meaning.proofs.Tests.{and_left, and_right}
use Rattle.typed.specs.declared.Sign.{Sign}
use Rattle.typed.specs.declared.Sign.TheVariants.{Hex, Space, Dash, Stray}
use Rattle.typed.specs.declared.Form.{Form}
use Rattle.typed.specs.declared.Form.TheVariants.{Blank, Digit, Lead, Number, Numbered, Octets, Half, Refused, Other}
use Rattle.typed.specs.declared.Line.{Line}
use Rattle.typed.specs.Signs.{sign_of}
use Rattle.typed.specs.Forms.{by_sign, paired, form_after, completed_by, completed, Small, Keeps, Stores, Takes, typed}
use Rattle.typed.proofs.Signs.{SmallSign, small_sign}

-- ---- the forms that a `match` does not name

pub no_dash : (f : Form) → ((n : ℕ) → f ≡ Lead n → ⊥) → ((n : ℕ) → f ≡ Numbered n → ⊥) → form_after f Dash ≡ Other
unfolding form_after by_sign
no_dash Blank k l = refl
no_dash (Digit h) k l = refl
no_dash (Lead n) k l = absurd (k n refl)
no_dash (Number n) k l = refl
no_dash (Numbered n) k l = absurd (l n refl)
no_dash Octets k l = refl
no_dash (Half h) k l = refl
no_dash (Refused n) k l = refl
no_dash Other k l = refl

pub stray_makes_other : (f : Form) → Other ≡ form_after f Stray
unfolding form_after by_sign
stray_makes_other Blank = refl
stray_makes_other (Digit h) = refl
stray_makes_other (Lead n) = refl
stray_makes_other (Number n) = refl
stray_makes_other (Numbered n) = refl
stray_makes_other Octets = refl
stray_makes_other (Half h) = refl
stray_makes_other (Refused n) = refl
stray_makes_other Other = refl

-- an octet that is no digit completes none
pub no_digit_completes : (f : Form) (s : Sign) → ((d : ℕ) → s ≡ Hex d → ⊥) → completed f s ≡ []
unfolding completed
no_digit_completes f (Hex d) k = absurd (k d refl)
no_digit_completes f Space k = refl
no_digit_completes f Dash k = refl
no_digit_completes f Stray k = refl

-- a digit completes an octet behind a line's first and behind one that stands alone
pub completes : {f : Form} {h : ℕ} (d : ℕ) → (f ≡ Digit h) ⊎ (f ≡ Half h) → completed_by f d ≡ (h * 16 + d) ∷ []
unfolding completed_by
completes d (inl e) = rw e
completes d (inr e) = rw e

pub first_small : {f : Form} {h : ℕ} → (f ≡ Digit h) ⊎ (f ≡ Half h) → Small f → h < 16
first_small (inl e) k = rw e at k
first_small (inr e) k = rw e at k

pub no_octet : (f : Form) (d : ℕ) → ((h : ℕ) → f ≡ Digit h → ⊥) → ((h : ℕ) → f ≡ Half h → ⊥) → completed_by f d ≡ []
unfolding completed_by
no_octet Blank d k l = refl
no_octet (Digit h) d k l = absurd (k h refl)
no_octet (Lead n) d k l = refl
no_octet (Number n) d k l = refl
no_octet (Numbered n) d k l = refl
no_octet Octets d k l = refl
no_octet (Half h) d k l = absurd (l h refl)
no_octet (Refused n) d k l = refl
no_octet Other d k l = refl

-- ---- octets that are kept

pub stores_one : (room : List ℕ) (count x : ℕ) → length room ≡ 4097 → count < 4097 → Stores room count (x ∷ []) (count + 1) (set room count x)
stores_one room count x e h =
    let f = take count room in
    let n : length (f ++ (x ∷ [])) ≤ 4097 = simp length-append (omega (arith, length-take-le count room (omega arith))) in
    record {
      within = omega arith;
      octets_are = rw add-one (take-suc-set room count x (omega arith)) ∙ sym (take_all 4097 (f ++ (x ∷ [])) n);
    }

-- there is no room for more
pub stores_full : (room : List ℕ) (count x : ℕ) → length room ≡ 4097 → count ≤ 4097 → 4097 ≤ count → Stores room count (x ∷ []) count room
stores_full room count x e h k =
    let f = take count room in
    let n : length f ≡ 4097 = length-take-le count room (omega arith) ∙ omega arith in
    record { within = h; octets_are = sym (take-append-le 4097 f (x ∷ []) (omega arith) ∙ take_all 4097 f (omega arith)) }

pub stores_none : (room : List ℕ) (count : ℕ) {more : List ℕ} → length room ≡ 4097 → count ≤ 4097 → more ≡ [] → Stores room count more count room
stores_none room count e h z =
    let f = take count room in
    record { within = h; octets_are = rw (z, append-nil) (sym (take_all 4097 f (omega (arith, length-take-le count room (omega arith))))) }

-- ---- forms stay small

small_if : (b : Bool) (f g : Form) → (b ≡ true → Small f) → Small g → Small (cond b f g)
small_if true f g h k = h refl
small_if false f g h k = k

small_by : (s : Sign) (digit : ℕ → Form) (space dash : Form) → SmallSign s → ((d : ℕ) → d < 16 → Small (digit d)) → Small space → Small dash → Small (by_sign s digit space dash)
unfolding by_sign
small_by (Hex d) digit space dash k f g h = f d k
small_by Space digit space dash k f g h = g
small_by Dash digit space dash k f g h = h
small_by Stray digit space dash k f g h = tt

small_pair : (h d : ℕ) → Small (paired h d)
unfolding paired
small_pair h d =
    small_if (ltb h 10 && ltb d 10) (Number (10 * h + d)) Octets
    (λ e. omega (arith, ltb-true h 10 (and_left _ _ e), ltb-true d 10 (and_right (ltb h 10) _ e)))
    tt

pub small-after : (f : Form) (s : Sign) → Small f → SmallSign s → Small (form_after f s)
unfolding form_after
small-after Blank s h k = small_by s Digit Blank Other k (λ d e. e) tt tt
small-after (Digit a) s h k = small_by s (paired a) _ Other k (λ d e. small_pair a d) (small_if (ltb a 10) (Lead a) Other (ltb-true a 10) tt) tt
small-after (Lead n) s h k = small_by s _ (Lead n) (Refused n) k (λ d e. small_if (eqb n 0) (Half d) Other (λ z. e) tt) h (omega arith)
small-after (Number n) s h k = small_by s Half (Numbered n) Other k (λ d e. e) h tt
small-after (Numbered n) s h k = small_by s Half (Numbered n) (Refused n) k (λ d e. e) h h
small-after Octets s h k = small_by s Half Octets Other k (λ d e. e) tt tt
small-after (Half a) s h k = small_by s (λ d. Octets) Other Other k (λ d e. tt) tt tt
small-after (Refused n) s h k = small_by s (λ d. Other) (Refused n) Other k (λ d e. tt) h tt
small-after Other s h k = tt

-- ---- a line goes on

module _ (room : List ℕ) (l : Line) (c : ℕ) (k : Keeps room l) where
  pub in_comment : l.comment ≡ true → Takes room l c l room
  unfolding typed
  in_comment e = record { keeps = k; typed_is = rw e }

  pub comment-begins : l.comment ≡ false → c ≡ 35 → Takes room l c (record { form = l.form; comment = true; count = l.count }) room
  unfolding typed
  comment-begins e f = record { keeps = record { long = k.long; within = k.within; small = k.small }; typed_is = rw (e, f) }

  -- an octet of the line itself
  pub goes_on : (s : Sign) (r : Form) (n : ℕ) (room' : List ℕ) → l.comment ≡ false → (c ≡ 35 → ⊥) → s ≡ sign_of c → r ≡ form_after l.form s
      → length room' ≡ 4097 → Stores room l.count (completed l.form s) n room' → Takes room l c (record { form = r; comment = false; count = n }) room'
  unfolding typed
  goes_on s r n room' e f es er long w =
      record {
        keeps = record { long = long; within = w.within; small = rw (er, es) (small-after l.form (sign_of c) k.small (small_sign c)) };
        typed_is = rw (e, ne_eqb c 35 f, w.octets_are, er, es);
      }

  -- one that completes none
  pub goes_on_bare : (s : Sign) (r : Form) → l.comment ≡ false → (c ≡ 35 → ⊥) → s ≡ sign_of c → r ≡ form_after l.form s → completed l.form s ≡ []
      → Takes room l c (record { form = r; comment = l.comment; count = l.count }) room
  goes_on_bare s r e f es er z =
      subst (λ (b : Bool). Takes room l c (record { form = r; comment = b; count = l.count }) room) (sym e)
      (goes_on s r l.count room e f es er k.long (stores_none room l.count k.long k.within z))
