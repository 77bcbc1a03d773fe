-- The elements of a reply, walked by their sizes: a whole element is passed whatever stands behind it, and kept if it is to be read.
use Prim.Native.Nat.{ℕ, zero, suc, ◌+◌, ◌≤◌, ◌<◌}
use native.Mathlib.Omega.{arith}
use mathlib.Core.Path.{◌≡◌, refl, ◌∙◌}
use mathlib.Core.Bool.{Bool, true, false, ◌&&◌, cond}
use mathlib.Core.Option.{Option, none, some}
use mathlib.Core.List.{List, [], ◌∷◌, ◌++◌, append_assoc}
use lib.ListN.{length, take, drop, length-drop}
use lib.Dec.{leb, ltb}
use borrow.Author.Tests.{lt-leb, le-ltb}
use Rattle.meaning.specs.Octets.{be16, part}
use Rattle.meaning.specs.Block.{as_number}
use Rattle.meaning.specs.Capture.{then_read, sized, length_octets, Elements, is_read, keeping, elements_in}
use Rattle.meaning.proofs.Fronts.{sized-alone, sized_one, sized_two}

-- ---- an element as it is spelt

pub record Element : Type 0 where
  pub id : ℕ
  pub contents : List ℕ

-- a length of none, one or two octets
unfoldable pub length_spelt : ℕ → ℕ → List ℕ
length_spelt zero n = []
length_spelt (suc zero) n = n ∷ []
length_spelt (suc (suc w)) n = be16 n

unfoldable pub spelling : Element → List ℕ
spelling e = e.id ∷ length_spelt (length_octets e.id) (length e.contents) ++ e.contents

-- contents that such a length can tell
abbrev pub Tells : ℕ → List ℕ → Type 0
Tells zero c = c ≡ []
Tells (suc zero) c = length c < 256
Tells (suc (suc w)) c = length c < 65536

abbrev pub RightSize : Element → Type 0
RightSize e = Tells (length_octets e.id) e.contents

-- ---- walked

sized_spelt : (id : ℕ) (c t : List ℕ) → Tells (length_octets id) c → sized (length_octets id) (length_spelt (length_octets id) (length c) ++ (c ++ t)) ≡ some (c, t)
unfolding length_octets length_spelt
sized_spelt id c t = go (leb 0x80 id) (leb 0x70 id)
  where
    go : (a b : Bool) → Tells (cond a 0 (cond b 2 1)) c → sized (cond a 0 (cond b 2 1)) (length_spelt (cond a 0 (cond b 2 1)) (length c) ++ (c ++ t)) ≡ some (c, t)
    go true b h = rw h (sized-alone t)
    go false true h = sized_two c t h
    go false false h = sized_one c t

-- at most n octets are left behind what is read
abbrev pub Leaving : {A : Type 0} → ℕ → Option (A × List ℕ) → Type 0
Leaving n none = Unit {0}
Leaving n (some a) = length a.1 ≤ n

pub then_same : {A B : Type 0} (n : ℕ) (o : Option (A × List ℕ)) (f g : A × List ℕ → Option B) → Leaving n o
    → ((a : A × List ℕ) → length a.1 ≤ n → f a ≡ g a) → then_read o f ≡ then_read o g
unfolding then_read
then_same n none f g l e = refl
then_same n (some a) f g l e = e a l

pub sized_leaves : (w : ℕ) (s : List ℕ) → Leaving (length s) (sized w s)
unfolding sized
sized_leaves w s = go (leb (w + as_number (take w s)) (length s))
  where
    go : (b : Bool) → Leaving (length s) (cond b (some (part s w (as_number (take w s)), drop (w + as_number (take w s)) s)) none)
    go true = omega (arith, length-drop (w + as_number (take w s)) s)
    go false = tt

module _ {C : Type 0} (keep : List ℕ → List ℕ → C) where
  -- walked with no bound but the octets themselves
  abbrev pub walk_from : Elements C → List ℕ → Option (Elements C)
  walk_from k s = elements_in keep (length s) k s

  same_bound : (i j : ℕ) (k : Elements C) (s : List ℕ) → length s ≤ i → length s ≤ j → elements_in keep i k s ≡ elements_in keep j k s
  unfolding elements_in
  same_bound zero zero k s p q = refl
  same_bound zero (suc j) k [] p q = refl
  same_bound zero (suc j) k (x ∷ s) p q = absurd (omega arith)
  same_bound (suc i) zero k [] p q = refl
  same_bound (suc i) zero k (x ∷ s) p q = absurd (omega arith)
  same_bound (suc i) (suc j) k [] p q = refl
  same_bound (suc i) (suc j) k (x ∷ s) p q =
      then_same (length s) (sized (length_octets x) s) _ _ (sized_leaves (length_octets x) s)
      (λ e h. same_bound i j (keeping k x (keep e.0 e.1)) e.1 (omega arith) (omega arith))

  pub walk-nil : (k : Elements C) → walk_from k [] ≡ some k
  unfolding elements_in
  walk-nil k = refl

  pub walk_step : (k : Elements C) (id : ℕ) (s : List ℕ)
      → walk_from k (id ∷ s) ≡ then_read (sized (length_octets id) s) (λ e. walk_from (keeping k id (keep e.0 e.1)) e.1)
  unfolding elements_in
  walk_step k id s =
      then_same (length s) (sized (length_octets id) s) _ _ (sized_leaves (length_octets id) s)
      (λ e h. same_bound (length s) (length e.1) (keeping k id (keep e.0 e.1)) e.1 h (omega arith))

  -- a whole element is passed, and kept as its place among the others says
  pub walk-element : (k : Elements C) (e : Element) (t : List ℕ) → RightSize e → walk_from k (spelling e ++ t) ≡ walk_from (keeping k e.id (keep e.contents t)) t
  unfolding spelling then_read
  walk-element k e t h =
      let w = length_octets e.id in
      let c = e.contents in
      let a : length_spelt w (length c) ++ c ++ t ≡ length_spelt w (length c) ++ (c ++ t) = append_assoc (length_spelt w (length c)) c t in
      walk_step k e.id (length_spelt w (length c) ++ c ++ t)
      ∙ rw (a, sized_spelt e.id c t h)

-- ---- which are read

-- an element that is not read changes nothing
pub not_read : {C : Type 0} (k : Elements C) (id : ℕ) (c : C) → is_read k.highest id ≡ false → keeping k id c ≡ k
unfolding keeping
not_read k id c e = rw e

-- known: 70, 71, 72
abbrev pub Known : ℕ → Type 0
Known id = (0x70 ≤ id) × (id ≤ 0x72)

pub unknown_low : (highest id : ℕ) → id < 0x70 → is_read highest id ≡ false
unfolding is_read
unknown_low highest id h = rw (lt-leb 0x70 id h) (go (ltb highest id))
  where
    go : (b : Bool) → (b && false) ≡ false
    go true = refl
    go false = refl

pub unknown_high : (highest id : ℕ) → 0x72 < id → is_read highest id ≡ false
unfolding is_read
unknown_high highest id h = rw (lt-leb id 0x72 h) (go (ltb highest id) (leb 0x70 id))
  where
    go : (b c : Bool) → (b && (c && false)) ≡ false
    go true true = refl
    go true false = refl
    go false c = refl

pub not_above : (highest id : ℕ) → id ≤ highest → is_read highest id ≡ false
unfolding is_read
not_above highest id h = rw (le-ltb highest id h)
