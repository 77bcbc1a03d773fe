-- Laws of lists of octets: properties of each element, parts, splices, what each element gives joined, numbers of two octets.
use Prim.Native.Nat.{ℕ, zero, suc, ◌+◌, ◌-◌, ◌*◌, ◌/◌, ◌%◌, ◌≤◌, ◌<◌}
use native.Mathlib.Nat.{add-sub_of_le}
use native.Mathlib.Omega.{arith}
use mathlib.Core.Path.{◌≡◌, refl, sym, ap, ◌∙◌}
use mathlib.Core.Bool.{true, false≢true}
use mathlib.Core.List.{List, [], ◌∷◌, ◌++◌, append_assoc}
use lib.ListN.{length, take, drop, length-append, length-take, length-drop, take-append-drop}
use lib.Seq.{drop_at, take-append-le, drop-append-le, take-append_seam, drop-drop, length-take-le, get_or-take, get_or-drop}
use Rattle.meaning.specs.Octets.{octet, at16, be16, part, splice, flat, nonempty}

-- every element has a property
abbrev pub Each : {A : Type 0} → (A → Type 0) → List A → Type 0
Each P [] = Unit {0}
Each P (x ∷ xs) = P x × Each P xs

-- a list of octets: each number is under 256
abbrev pub Octets : List ℕ → Type 0
Octets s = Each (λ x. x < 256) s

pub each_append : {A : Type 0} (P : A → Type 0) (a b : List A) → Each P a → Each P b → Each P (a ++ b)
each_append P [] b f g = g
each_append P (x ∷ a) b f g = (f.0, each_append P a b f.1 g)

pub each_left : {A : Type 0} (P : A → Type 0) (a b : List A) → Each P (a ++ b) → Each P a
each_left P [] b f = tt
each_left P (x ∷ a) b f = (f.0, each_left P a b f.1)

pub each_right : {A : Type 0} (P : A → Type 0) (a b : List A) → Each P (a ++ b) → Each P b
each_right P [] b f = f
each_right P (x ∷ a) b f = each_right P a b f.1

pub each_take : {A : Type 0} (P : A → Type 0) (n : ℕ) (s : List A) → Each P s → Each P (take n s)
each_take P zero s f = tt
each_take P (suc n) [] f = tt
each_take P (suc n) (x ∷ s) f = (f.0, each_take P n s f.1)

pub each_drop : {A : Type 0} (P : A → Type 0) (n : ℕ) (s : List A) → Each P s → Each P (drop n s)
each_drop P zero s f = f
each_drop P (suc n) [] f = f
each_drop P (suc n) (x ∷ s) f = each_drop P n s f.1

pub octets_each : (s : List ℕ) → ((i : ℕ) → octet s i < 256) → Octets s
octets_each [] h = tt
octets_each (x ∷ s) h = (h 0, octets_each s (λ i. h (suc i)))

pub octets-part : (s : List ℕ) (i n : ℕ) → Octets s → Octets (part s i n)
unfolding part
octets-part s i n o = each_take (λ x. x < 256) n (drop i s) (each_drop (λ x. x < 256) i s o)

-- ---- two octets

pub at16-be16 : (n : ℕ) (t : List ℕ) → n < 65536 → at16 (be16 n ++ t) 0 ≡ n
unfolding at16 be16
at16-be16 n t h = omega arith

pub at16-second : (n k : ℕ) (t : List ℕ) → k < 65536 → at16 (be16 n ++ (be16 k ++ t)) 2 ≡ k
unfolding at16 be16
at16-second n k t h = omega arith

pub be16-at16 : (h l : ℕ) → h < 256 → l < 256 → be16 (h * 256 + l) ≡ h ∷ l ∷ []
unfolding be16
be16-at16 h l a b =
    let p : (h * 256 + l) / 256 % 256 ≡ h = omega arith in
    let q : (h * 256 + l) % 256 ≡ l = omega arith in
    rw (p, q)

-- ---- parts

pub part-append : (p q : List ℕ) (i n : ℕ) → i + n ≤ length p → part (p ++ q) i n ≡ part p i n
unfolding part
part-append p q i n h =
    rw (drop-append-le i p q (omega arith), take-append-le n (drop i p) q (simp length-drop (omega arith)))

pub part-octet : (s : List ℕ) (i n j : ℕ) → j < n → octet (part s i n) j ≡ octet s (i + j)
unfolding part
part-octet s i n j h = rw (get_or-take, get_or-drop)

pub part-most : (s : List ℕ) (i n : ℕ) → (length (part s i n) ≤ n) × (length (part s i n) ≤ length s)
unfolding part
part-most s i n = rw (length-take, length-drop) (omega arith, omega arith)

pub length_part : (s : List ℕ) (i n : ℕ) → i + n ≤ length s → length (part s i n) ≡ n
unfolding part
length_part s i n h = length-take-le n (drop i s) (simp length-drop (omega arith))

-- ---- splices

module _ (s : List ℕ) (i : ℕ) (v : List ℕ) (h : i + length v ≤ length s) where
  front : length (take i s) ≡ i
  front = length-take-le i s (omega arith)

  pub splice-length : length (splice s i v) ≡ length s
  unfolding splice
  splice-length = simp (length-append, length-drop, front) (omega arith)

  pub splice-same : part (splice s i v) i (length v) ≡ v
  unfolding splice part
  splice-same = rw (drop_at (take i s) (v ++ drop (i + length v) s) i front) (take-append_seam v (drop (i + length v) s))

  pub splice_before : (j n : ℕ) → j + n ≤ i → part (splice s i v) j n ≡ part s j n
  unfolding splice
  splice_before j n k =
      part-append (take i s) (v ++ drop (i + length v) s) j n (rw front k)
      ∙ sym (part-append (take i s) (drop i s) j n (rw front k))
      ∙ ap (λ (l : List ℕ). part l j n) (take-append-drop i s)

  splice-drop : drop (i + length v) (splice s i v) ≡ drop (i + length v) s
  unfolding splice
  splice-drop =
      sym (drop-drop (length v) i (take i s ++ (v ++ drop (i + length v) s)))
      ∙ ap (drop (length v)) (drop_at (take i s) (v ++ drop (i + length v) s) i front)
      ∙ drop_at v (drop (i + length v) s) (length v) refl

  pub splice-after : (j n : ℕ) → i + length v ≤ j → part (splice s i v) j n ≡ part s j n
  unfolding part
  splice-after j n k =
      let e : i + length v + (j - (i + length v)) ≡ j = add-sub_of_le k in
      ap (take n)
      (ap (λ (l : ℕ). drop l (splice s i v)) (sym e)
      ∙ sym (drop-drop (j - (i + length v)) (i + length v) (splice s i v))
      ∙ ap (drop (j - (i + length v))) splice-drop
      ∙ drop-drop (j - (i + length v)) (i + length v) s
      ∙ ap (λ (l : ℕ). drop l s) e)

-- an octet is a part of one
pub octet-part : (s : List ℕ) (i : ℕ) → octet (part s i 1) 0 ≡ octet s i
octet-part s i = part-octet s i 1 0 (omega arith) ∙ ap (λ (j : ℕ). octet s j) (omega arith)

-- ---- what each element gives, joined

pub flat_append : {A : Type 0} (f : A → List ℕ) (a b : List A) → flat f (a ++ b) ≡ flat f a ++ flat f b
unfolding flat
flat_append f [] b = refl
flat_append f (x ∷ a) b = rw (flat_append f a b, append_assoc)

pub flat-length : {A : Type 0} (f : A → List ℕ) (a b : List A) → length (flat f (a ++ b)) ≡ length (flat f a) + length (flat f b)
flat-length f a b = rw (flat_append, length-append)

pub flat-within : {A : Type 0} (f : A → List ℕ) (p a q : List A) → length (flat f a) ≤ length (flat f (p ++ (a ++ q)))
flat-within f p a q = omega (arith, flat-length f p (a ++ q), flat-length f a q)

pub length-within : {A : Type 0} (p a q : List A) → length a ≤ length (p ++ (a ++ q))
length-within p a q = omega (arith, length-append p (a ++ q), length-append a q)

pub nonempty-within : {A : Type 0} (p a q : List A) → nonempty a ≡ true → nonempty (p ++ (a ++ q)) ≡ true
nonempty-within (y ∷ p) a q e = refl
nonempty-within [] [] q e = absurd (false≢true e)
nonempty-within [] (x ∷ a) q e = refl
