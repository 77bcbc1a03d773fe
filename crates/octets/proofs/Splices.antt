-- Splices, one for each way in which octets are written: one store or two, a part lent on, one write after another, two apart, a part
-- behind itself.
use Prim.Native.Nat.{ℕ, ◌+◌, ◌-◌, ◌≤◌, ◌<◌}
use native.Mathlib.Nat.{add-zero}
use native.Mathlib.Omega.{arith}
use native.Mathlib.Numerals.{add-one}
use mathlib.Core.Path.{◌≡◌, refl, sym, ap, ◌∙◌}
use mathlib.Core.List.{List, [], ◌∷◌, ◌++◌, append_assoc, append-nil}
use lib.ListN.{length, take, drop, set, length-append, length-drop, take-append-drop, drop_of_length-le}
use lib.Seq.{paste, take_at, take-append-le, drop-append-le, drop-append-add, drop-drop, length-take-le, take_all, drop-cons, sets-eq}
use borrow.Rule.Slice.PartMut.{put_mid, Post-is}
use Rattle.meaning.specs.Octets.{octet, part, splice}
use Rattle.meaning.proofs.Lists.{length_part, octet-part, splice-length, splice_before}

-- as many octets written as there are: nothing is left of the old ones
pub splice_all : (s v : List ℕ) → length v ≡ length s → splice s 0 v ≡ v
unfolding splice
splice_all s v h =
    let k : length s ≤ 0 + length v = omega arith in
    rw (drop_of_length-le s k, append-nil)

-- octets written at the start, read back
pub splice_front : (s v : List ℕ) → take (length v) (splice s 0 v) ≡ v
unfolding splice
splice_front s v = take_at v (drop (0 + length v) s) (length v) refl

-- nothing written changes nothing
pub splice-nil : (s : List ℕ) (i : ℕ) → splice s i [] ≡ s
unfolding splice
splice-nil s i = rw (add-zero, take-append-drop)

-- one octet stored
pub one_store : (s : List ℕ) (i a : ℕ) → i + 1 ≤ length s → set s i a ≡ splice s i (a ∷ [])
unfolding splice
one_store s i a h = sets-eq (a ∷ []) s i h ∙ append_assoc (take i s) (a ∷ []) (drop (i + 1) s)

-- two octets stored, the second behind the first
pub two_stores : (s : List ℕ) (i a b : ℕ) → i + 2 ≤ length s → set (set s i a) (i + 1) b ≡ splice s i (a ∷ b ∷ [])
unfolding splice
two_stores s i a b h =
    rw add-one (sets-eq (a ∷ b ∷ []) s i h) ∙ append_assoc (take i s) (a ∷ b ∷ []) (drop (i + 2) s)

-- one write behind another is one write of both
pub splice-splice : (s a b : List ℕ) (i : ℕ) → i + length a ≤ length s → splice (splice s i a) (i + length a) b ≡ splice s i (a ++ b)
unfolding splice
splice-splice s a b i h =
    let p = take i s ++ a in
    let d = drop (i + length a) s in
    let l : length p ≡ i + length a = rw (length-append, length-take-le i s (omega arith)) in
    let q : take i s ++ (a ++ d) ≡ p ++ d = sym (append_assoc (take i s) a d) in
    let t : take (i + length a) (p ++ d) ≡ p = take_at p d (i + length a) l in
    let n : i + length a + length b ≡ i + length (a ++ b) = simp length-append (omega arith) in
    let e : drop (i + length a + length b) (p ++ d) ≡ drop (i + length (a ++ b)) s =
    ap (λ (k : ℕ). drop (k + length b) (p ++ d)) (sym l)
    ∙ drop-append-add p d (length b)
    ∙ drop-drop (length b) (i + length a) s
    ∙ ap (λ (k : ℕ). drop k s) n in
    rw (q, t, e) (simp append_assoc)

-- the same for what two calls leave
pub then : (s a b : List ℕ) (i p : ℕ) {s₁ s₂ : List ℕ} → i + length a ≤ length s → p ≡ i + length a → s₁ ≡ splice s i a → s₂ ≡ splice s₁ p b → s₂ ≡ splice s i (a ++ b)
then s a b i p h e e₁ e₂ = rw (e₂, e₁, e) (splice-splice s a b i h)

-- ---- two writes that lie apart

-- a write within the front part leaves the rest
splice_left : (p q v : List ℕ) (i : ℕ) → i + length v ≤ length p → splice (p ++ q) i v ≡ splice p i v ++ q
unfolding splice
splice_left p q v i h =
    let k : i ≤ length p = omega arith in
    rw (take-append-le i p q k, drop-append-le (i + length v) p q h) (simp append_assoc)

-- a write behind the front part
splice-right : (p d w : List ℕ) (j : ℕ) → length p ≡ j → splice (p ++ d) j w ≡ p ++ (w ++ drop (length w) d)
unfolding splice
splice-right p d w j l =
    let e : drop (j + length w) (p ++ d) ≡ drop (length w) d = ap (λ (k : ℕ). drop (k + length w) (p ++ d)) (sym l) ∙ drop-append-add p d (length w) in
    rw (take_at p d j l, e)

-- two writes that lie apart, in either order
pub splice_comm : (s v w : List ℕ) (i j : ℕ) → i + length v ≤ j → j + length w ≤ length s → splice (splice s i v) j w ≡ splice (splice s j w) i v
splice_comm s v w i j h k =
    let t = take j s in
    let d = drop j s in
    let f : length t ≡ j = length-take-le j s (omega arith) in
    let n : i + length v ≤ length t = omega (arith, f) in
    let c : t ++ d ≡ s = take-append-drop j s in
    let a : splice s i v ≡ splice t i v ++ d = ap (λ (l : List ℕ). splice l i v) (sym c) ∙ splice_left t d v i n in
    let b : splice s j w ≡ t ++ (w ++ drop (length w) d) = ap (λ (l : List ℕ). splice l j w) (sym c) ∙ splice-right t d w j f in
    rw (a, b) (splice-right (splice t i v) d w j (splice-length t i v n ∙ f) ∙ sym (splice_left t (w ++ drop (length w) d) v i n))

-- ---- a part written once more

-- as the library copies it
pub pasted : (s : List ℕ) (from n at : ℕ) → from + n ≤ length s → paste s at (drop from s) (from + n - from) ≡ splice s at (part s from n)
unfolding part splice
pasted s from n at h =
    let e : from + n - from ≡ n = omega arith in
    let l : length (take n (drop from s)) ≡ n = length_part s from n h in
    rw (e, l) (append_assoc (take at s) (take n (drop from s)) (drop (at + n) s))

-- the same octet by octet, which no code does any more: a law of what `copy_within` comes to, that a note of docs/ names

-- a part by its first octet
part-cons : (s : List ℕ) (i n : ℕ) → i < length s → part s i (n + 1) ≡ octet s i ∷ part s (i + 1) n
unfolding part
part-cons s i n h = rw (add-one, add-one, drop-cons s i 0 h)

-- one octet of it more, from the last to the first, read from where it was written
pub one_more-within : (s : List ℕ) (from at n : ℕ) {t : List ℕ} → from < at → at + 1 + n ≤ length s → t ≡ splice s (at + 1) (part s (from + 1) n)
    → set t at (octet t from) ≡ splice s at (part s from (n + 1))
one_more-within s from at n {t} h k e =
    let w = part s (from + 1) n in
    let x = octet s from in
    let l : length w ≡ n = length_part s (from + 1) n (omega arith) in
    let f : at + 1 + length w ≤ length s = omega (arith, l) in
    let o : octet t from ≡ x =
    rw e
    (sym (octet-part (splice s (at + 1) w) from)
    ∙ ap (λ (p : List ℕ). octet p 0) (splice_before s (at + 1) w f from 1 (omega arith))
    ∙ octet-part s from) in
    let g : length t ≡ length s = ap length e ∙ splice-length s (at + 1) w f in
    rw (o, part-cons s from n (omega arith))
    (one_store t at x (omega (arith, g))
    ∙ ap (λ (u : List ℕ). splice u at (x ∷ [])) e
    ∙ sym (splice_comm s (x ∷ []) w at (at + 1) (omega arith) f)
    ∙ splice-splice s (x ∷ []) w at (omega arith))

-- ---- parts lent

-- a part as it is lent
pub part_is : (s : List ℕ) (a n : ℕ) → take (a + n - a) (drop a s) ≡ part s a n
unfolding part
part_is s a n =
    let e : a + n - a ≡ n = omega arith in
    rw e

-- all that follows the first k octets
pub rest_is_lem : (s : List ℕ) (k : ℕ) → take (length s - k) (drop k s) ≡ drop k s
rest_is_lem s k = take_all (length s - k) (drop k s) (simp length-drop (omega arith))

-- a part that was lent comes back: the octets with the part's new ones in them
pub lent_back : (m ys : List ℕ) (a e : ℕ) → a ≤ e → length ys ≡ e - a → put_mid a (e - a) m ys ≡ splice m a ys
unfolding splice
lent_back m ys a e h l =
    let k : a + length ys ≡ e = omega arith in
    rw (Post-is a e m h, k)

-- octets copied into a part that is just as long
pub copied_in : (out src last : List ℕ) (at : ℕ) → at + length src ≤ length out → last ≡ src → put_mid at (at + length src - at) out last ≡ splice out at src
copied_in out src last at n e =
    lent_back out last at (at + length src) (omega arith) (rw e (omega arith)) ∙ ap (splice out at) e
