-- The octets that spell an operation, and that parsing is their inverse: what is parsed was spelt so, and what is spelt is parsed.
use Prim.Native.Nat.{ℕ, zero, suc, ◌+◌, ◌*◌, ◌/◌, ◌%◌, ◌≤◌, ◌<◌}
use native.Mathlib.Omega.{arith}
use mathlib.Core.Path.{◌≡◌, refl, sym, ap, ◌∙◌, subst}
use mathlib.Core.Bool.{Bool, true, false, cond}
use mathlib.Core.Option.{Option, none, some}
use mathlib.Core.List.{List, [], ◌∷◌, ◌++◌}
use lib.ListN.{length, take, drop, length-append, take-append-drop, length-drop}
use lib.Seq.{take_at, drop_at, length-take-le, drop-drop}
use lib.Dec.{eqb, leb}
use borrow.Author.Tests.{leb-true, le-leb, eqb-true}
use Rattle.meaning.specs.Octets.{at16, be16, part, flat}
use Rattle.meaning.specs.Operation.{Op, capabilities, read, set, subscribe, unsubscribe, selective_read, selective_subscribe, selective_unsubscribe, delete_entry, Shape, alone, named, valued, malformed, shape_of, shape, Next, bad, got, whole, shaped, more, follow, parse_in, parse}
use Rattle.meaning.specs.Profile.{is_release16, has_code}
use Rattle.meaning.proofs.Profiles.{low_code, every_code, high_code, shape_has}
use Rattle.meaning.proofs.Lists.{Each, Octets, each_drop, at16-be16, at16-second, be16-at16}

unfoldable pub encode : Op → List ℕ
encode capabilities = 1 ∷ []
encode (read n) = 2 ∷ be16 n
encode (set n v) = 3 ∷ be16 n ++ (be16 (length v) ++ v)
encode (subscribe n) = 4 ∷ be16 n
encode (unsubscribe n) = 5 ∷ be16 n
encode (selective_read n v) = 6 ∷ be16 n ++ (be16 (length v) ++ v)
encode (selective_subscribe n v) = 7 ∷ be16 n ++ (be16 (length v) ++ v)
encode (selective_unsubscribe n v) = 8 ∷ be16 n ++ (be16 (length v) ++ v)
encode (delete_entry n v) = 9 ∷ be16 n ++ (be16 (length v) ++ v)

-- an operation whose code the profile has, and that two octets of name and two of length can carry
abbrev pub Fine : (p : ℕ) → Op → Type 0
Fine p capabilities = Unit {0}
Fine p (read n) = n < 65536
Fine p (set n v) = (n < 65536) × (length v < 65536)
Fine p (subscribe n) = n < 65536
Fine p (unsubscribe n) = n < 65536
Fine p (selective_read n v) = (n < 65536) × (length v < 65536) × (is_release16 p ≡ false)
Fine p (selective_subscribe n v) = (n < 65536) × (length v < 65536) × (is_release16 p ≡ false)
Fine p (selective_unsubscribe n v) = (n < 65536) × (length v < 65536) × (is_release16 p ≡ false)
Fine p (delete_entry n v) = (n < 65536) × (length v < 65536) × (is_release16 p ≡ false)

pub encode_some : (o : Op) → 1 ≤ length (encode o)
unfolding encode
encode_some capabilities = omega arith
encode_some (read n) = omega arith
encode_some (set n v) = omega arith
encode_some (subscribe n) = omega arith
encode_some (unsubscribe n) = omega arith
encode_some (selective_read n v) = omega arith
encode_some (selective_subscribe n v) = omega arith
encode_some (selective_unsubscribe n v) = omega arith
encode_some (delete_entry n v) = omega arith

-- ---- the first operation of a list of octets

abbrev pub first_of : (p : ℕ) → List ℕ → Next
first_of p [] = bad
first_of p (c ∷ s) = shaped (shape p c) s

whole_there : (w : ℕ) (s : List ℕ) (o : Op) → w ≤ length s → whole w s o ≡ got o (drop w s)
unfolding whole
whole_there w s o h = rw (le-leb w (length s) h)

named-first : (f : ℕ → Op) (n : ℕ) (r : List ℕ) → n < 65536 → shaped (named f) (be16 n ++ r) ≡ got (f n) r
unfolding shaped be16
named-first f n r h =
    whole_there 2 (n / 256 % 256 ∷ n % 256 ∷ r) (f (at16 (n / 256 % 256 ∷ n % 256 ∷ r) 0)) (omega arith)
    ∙ ap (λ (k : ℕ). got (f k) r) (unfold be16 in at16-be16 n r h)

part_fourth : (n k : ℕ) (v r : List ℕ) → part (be16 n ++ (be16 k ++ (v ++ r))) 4 (length v) ≡ v
unfolding part be16
part_fourth n k v r = take_at v r (length v) refl

drop_fourth : (n k : ℕ) (v r : List ℕ) → drop (4 + length v) (be16 n ++ (be16 k ++ (v ++ r))) ≡ r
unfolding be16
drop_fourth n k v r =
    sym (drop-drop (length v) 4 (n / 256 % 256 ∷ n % 256 ∷ k / 256 % 256 ∷ k % 256 ∷ (v ++ r))) ∙ drop_at v r (length v) refl

valued-first : (f : ℕ → List ℕ → Op) (n : ℕ) (v r : List ℕ) → n < 65536 → length v < 65536
    → shaped (valued f) (be16 n ++ (be16 (length v) ++ (v ++ r))) ≡ got (f n v) r
unfolding shaped
valued-first f n v r hn hv =
    let s = be16 n ++ (be16 (length v) ++ (v ++ r)) in
    let long : 4 + length v ≤ length s = unfold be16 in omega (arith, length-append v r) in
    rw (at16-second n (length v) (v ++ r) hv, at16-be16 n (be16 (length v) ++ (v ++ r)) hn, part_fourth n (length v) v r)
    (whole_there (4 + length v) s (f n v) long ∙ ap (got (f n v)) (drop_fourth n (length v) v r))

-- ---- what is spelt is parsed

low : (p c : ℕ) → c ≤ 5 → shape p c ≡ shape_of c
low p c h = shape_has p c (low_code p c h)

high : (p c : ℕ) → is_release16 p ≡ false → shape p c ≡ shape_of c
high p c e = shape_has p c (every_code p c e)

pub first_encoded : (p : ℕ) (o : Op) (r : List ℕ) → Fine p o → first_of p (encode o ++ r) ≡ got o r
unfolding encode shape_of be16 shaped
first_encoded p capabilities r f = rw (low p 1 (omega arith))
first_encoded p (read n) r f = rw (low p 2 (omega arith)) (named-first read n r f)
first_encoded p (set n v) r f = rw (low p 3 (omega arith)) (valued-first set n v r f.0 f.1)
first_encoded p (subscribe n) r f = rw (low p 4 (omega arith)) (named-first subscribe n r f)
first_encoded p (unsubscribe n) r f = rw (low p 5 (omega arith)) (named-first unsubscribe n r f)
first_encoded p (selective_read n v) r f = rw (high p 6 f.2) (valued-first selective_read n v r f.0 f.1)
first_encoded p (selective_subscribe n v) r f = rw (high p 7 f.2) (valued-first selective_subscribe n v r f.0 f.1)
first_encoded p (selective_unsubscribe n v) r f = rw (high p 8 f.2) (valued-first selective_unsubscribe n v r f.0 f.1)
first_encoded p (delete_entry n v) r f = rw (high p 9 f.2) (valued-first delete_entry n v r f.0 f.1)

step_encoded : (p k : ℕ) (o : Op) (r : List ℕ) → parse_in p (suc k) (encode o ++ r) ≡ follow (first_of p (encode o ++ r)) (λ s. parse_in p k s)
unfolding parse_in encode
step_encoded p k capabilities r = refl
step_encoded p k (read n) r = refl
step_encoded p k (set n v) r = refl
step_encoded p k (subscribe n) r = refl
step_encoded p k (unsubscribe n) r = refl
step_encoded p k (selective_read n v) r = refl
step_encoded p k (selective_subscribe n v) r = refl
step_encoded p k (selective_unsubscribe n v) r = refl
step_encoded p k (delete_entry n v) r = refl

encoded_in : (p : ℕ) (os : List Op) (k : ℕ) → Each (Fine p) os → length (flat encode os) ≤ k → parse_in p k (flat encode os) ≡ some os
unfolding parse_in flat follow more
encoded_in p [] zero f h = refl
encoded_in p [] (suc k) f h = refl
encoded_in p (o ∷ os) zero f h = absurd (omega (arith, encode_some o, length-append (encode o) (flat encode os)))
encoded_in p (o ∷ os) (suc k) f h =
    step_encoded p k o (flat encode os)
    ∙ rw (
      first_encoded p o (flat encode os) f.0,
      encoded_in p os k f.1 (omega (arith, encode_some o, length-append (encode o) (flat encode os))),
    )

pub parse_encoded : (p : ℕ) (os : List Op) → Each (Fine p) os → parse p (flat encode os) ≡ some os
unfolding parse
parse_encoded p os f = encoded_in p os (length (flat encode os)) f (omega arith)

-- ---- what is parsed was spelt so

-- the octets s are those of the operation found and then those after it
abbrev pub Split : (p : ℕ) → List ℕ → Next → Type 0
Split p s bad = Unit {0}
Split p s (got o r) = (s ≡ encode o ++ r) × Fine p o × Octets r

-- a shape reads what was spelt with the code c
abbrev pub Right : (p : ℕ) → ℕ → Shape → Type 0
Right p c sh = (s : List ℕ) → Octets s → Split p (c ∷ s) (shaped sh s)

alone-right : (p c : ℕ) (o : Op) → Fine p o → encode o ≡ c ∷ [] → Right p c (alone o)
unfolding shaped
alone-right p c o f e = λ s os. (rw e, f, os)

-- where the octets are too few nothing is claimed
whole_split : (p w : ℕ) (t s : List ℕ) (o : Op) → (w ≤ length s → Split p t (got o (drop w s))) → Split p t (whole w s o)
unfolding whole
whole_split p w t s o h = go (leb w (length s)) refl
  where
    go : (b : Bool) → leb w (length s) ≡ b → Split p t (cond b (got o (drop w s)) bad)
    go true e = h (leb-true w (length s) e)
    go false e = tt

named-right : (p c : ℕ) (f : ℕ → Op) → ((n : ℕ) → n < 65536 → Fine p (f n)) → ((n : ℕ) → encode (f n) ≡ c ∷ be16 n) → Right p c (named f)
unfolding shaped at16
named-right p c f fine enc = λ s os. whole_split p 2 (c ∷ s) s (f (at16 s 0)) (λ h. there s os h)
  where
    there : (s : List ℕ) → Octets s → 2 ≤ length s → Split p (c ∷ s) (got (f (at16 s 0)) (drop 2 s))
    there [] os h = absurd (omega arith)
    there (x ∷ []) os h = absurd (omega arith)
    there (x ∷ y ∷ s) os h = (rw (enc, be16-at16 x y os.0 os.1.0), fine (x * 256 + y) (omega arith), os.1.1)

valued-right : (p c : ℕ) (f : ℕ → List ℕ → Op) → ((n : ℕ) (v : List ℕ) → n < 65536 → length v < 65536 → Fine p (f n v))
    → ((n : ℕ) (v : List ℕ) → encode (f n v) ≡ c ∷ be16 n ++ (be16 (length v) ++ v)) → Right p c (valued f)
unfolding shaped at16 part
valued-right p c f fine enc =
    λ s os. whole_split p (4 + at16 s 2) (c ∷ s) s (f (at16 s 0) (part s 4 (at16 s 2))) (λ h. there s os h)
  where
    there : (s : List ℕ) → Octets s → 4 + at16 s 2 ≤ length s
        → Split p (c ∷ s) (got (f (at16 s 0) (part s 4 (at16 s 2))) (drop (4 + at16 s 2) s))
    there [] os h = absurd (omega arith)
    there (x ∷ []) os h = absurd (omega arith)
    there (x ∷ y ∷ []) os h = absurd (omega arith)
    there (x ∷ y ∷ z ∷ []) os h = absurd (omega arith)
    there (x ∷ y ∷ a ∷ b ∷ r) os h =
        let n : ℕ = a * 256 + b in
        let l : length (take n r) ≡ n = length-take-le n r (omega arith) in
        let d : drop (4 + n) (x ∷ y ∷ a ∷ b ∷ r) ≡ drop n r = sym (drop-drop n 4 (x ∷ y ∷ a ∷ b ∷ r)) in
        let o4 : Octets r = os.1.1.1.1 in (
          rw (d, enc, l, be16-at16 x y os.0 os.1.0, be16-at16 a b os.1.1.0 os.1.1.1.0, take-append-drop n r),
          fine (x * 256 + y) (take n r) (omega arith) (omega (arith, l, os.1.1.0, os.1.1.1.0)),
          rw d (each_drop (λ i. i < 256) n r o4),
        )

malformed-right : (p c : ℕ) → Right p c malformed
unfolding shaped
malformed-right p c = λ s os. tt

choice_right : (p c d : ℕ) (x y : Shape) → (c ≡ d → Right p d x) → Right p c y → Right p c (cond (eqb c d) x y)
choice_right p c d x y h q = go (eqb c d) refl
  where
    go : (b : Bool) → eqb c d ≡ b → Right p c (cond b x y)
    go true e = rw (eqb-true c d e) (h (eqb-true c d e))
    go false e = q

known_right : (p c : ℕ) → has_code p c ≡ true → Right p c (shape_of c)
unfolding shape_of encode
known_right p c e =
    choice_right p c 1 _ _ (λ q. alone-right p 1 capabilities tt refl)
    (choice_right p c 2 _ _ (λ q. named-right p 2 read (λ n h. h) (λ n. refl))
    (choice_right p c 3 _ _ (λ q. valued-right p 3 set (λ n v h k. (h, k)) (λ n v. refl))
    (choice_right p c 4 _ _ (λ q. named-right p 4 subscribe (λ n h. h) (λ n. refl))
    (choice_right p c 5 _ _ (λ q. named-right p 5 unsubscribe (λ n h. h) (λ n. refl))
    (choice_right p c 6 _ _ (λ q. valued-right p 6 selective_read (λ n v h k. (h, k, later (omega (arith, q)))) (λ n v. refl))
    (choice_right p c 7 _ _ (λ q. valued-right p 7 selective_subscribe (λ n v h k. (h, k, later (omega (arith, q)))) (λ n v. refl))
    (choice_right p c 8 _ _ (λ q. valued-right p 8 selective_unsubscribe (λ n v h k. (h, k, later (omega (arith, q)))) (λ n v. refl))
    (choice_right p c 9 _ _ (λ q. valued-right p 9 delete_entry (λ n v h k. (h, k, later (omega (arith, q)))) (λ n v. refl))
    (malformed-right p c)))))))))
  where
    later : 6 ≤ c → is_release16 p ≡ false
    later h = high_code p c e h

pub shape-right : (p c : ℕ) → Right p c (shape p c)
unfolding shape
shape-right p c = go (has_code p c) refl
  where
    go : (b : Bool) → has_code p c ≡ b → Right p c (cond b (shape_of c) malformed)
    go true e = known_right p c e
    go false e = malformed-right p c

abbrev Spelt : (p : ℕ) → List ℕ → Option (List Op) → Type 0
Spelt p s none = Unit {0}
Spelt p s (some os) = (s ≡ flat encode os) × Each (Fine p) os

spelt_more : (p : ℕ) (s : List ℕ) (o : Op) (r : List ℕ) (q : Option (List Op)) → s ≡ encode o ++ r → Fine p o → Spelt p r q → Spelt p s (more o q)
unfolding more flat
spelt_more p s o r none e f w = tt
spelt_more p s o r (some os) e f w = (e ∙ ap (λ (l : List ℕ). encode o ++ l) w.0, (f, w.1))

spelt_follow : (p : ℕ) (s : List ℕ) (nx : Next) (rest : List ℕ → Option (List Op)) → Split p s nx → ((r : List ℕ) → Octets r → Spelt p r (rest r)) → Spelt p s (follow nx rest)
unfolding follow
spelt_follow p s bad rest q h = tt
spelt_follow p s (got o r) rest q h = spelt_more p s o r (rest r) q.0 q.1 (h r q.2)

spelt_in : (p k : ℕ) (s : List ℕ) → Octets s → Spelt p s (parse_in p k s)
unfolding parse_in flat
spelt_in p zero [] o = (refl, tt)
spelt_in p zero (c ∷ s) o = tt
spelt_in p (suc k) [] o = (refl, tt)
spelt_in p (suc k) (c ∷ s) o = spelt_follow p (c ∷ s) (shaped (shape p c) s) (λ r. parse_in p k r) (shape-right p c s o.1) (λ r q. spelt_in p k r q)

pub parse_spelt : (p : ℕ) (s : List ℕ) (os : List Op) → Octets s → parse p s ≡ some os → (s ≡ flat encode os) × Each (Fine p) os
unfolding parse
parse_spelt p s os o e = subst (λ (q : Option (List Op)). Spelt p s q) e (spelt_in p (length s) s o)

-- ---- the equation of `parse` with no bound: what a loop over the octets needs

abbrev pub Shorter : ℕ → Next → Type 0
Shorter n bad = Unit {0}
Shorter n (got o r) = length r ≤ n

whole_shorter : (w : ℕ) (s : List ℕ) (o : Op) → Shorter (length s) (whole w s o)
unfolding whole
whole_shorter w s o = go (leb w (length s))
  where
    go : (b : Bool) → Shorter (length s) (cond b (got o (drop w s)) bad)
    go true = omega (arith, length-drop w s)
    go false = tt

pub shaped_shorter : (sh : Shape) (s : List ℕ) → Shorter (length s) (shaped sh s)
unfolding shaped
shaped_shorter (alone o) s = omega arith
shaped_shorter (named f) s = whole_shorter 2 s (f (at16 s 0))
shaped_shorter (valued f) s = whole_shorter (4 + at16 s 2) s (f (at16 s 0) (part s 4 (at16 s 2)))
shaped_shorter malformed s = tt

follow-same : (n : ℕ) (nx : Next) (g h : List ℕ → Option (List Op)) → Shorter n nx → ((r : List ℕ) → length r ≤ n → g r ≡ h r) → follow nx g ≡ follow nx h
unfolding follow
follow-same n bad g h s e = refl
follow-same n (got o r) g h s e = ap (more o) (e r s)

-- what goes through octets at most n at a time comes to the same by each n that is not under their number, if what it makes of some octets is
-- settled by what it makes of fewer
module _ {A : Type 0} (through : ℕ → List ℕ → A) (at_end : (n : ℕ) → through n [] ≡ through zero [])
    (settled : (j k c : ℕ) (s : List ℕ) → ((r : List ℕ) → length r ≤ length s → through j r ≡ through k r) → through (suc j) (c ∷ s) ≡ through (suc k) (c ∷ s)) where
  pub same_bound : (j k : ℕ) (s : List ℕ) → length s ≤ j → length s ≤ k → through j s ≡ through k s
  same_bound zero k [] p q = sym (at_end k)
  same_bound zero k (c ∷ s) p q = absurd (omega arith)
  same_bound (suc j) k [] p q = at_end (suc j) ∙ sym (at_end k)
  same_bound (suc j) zero (c ∷ s) p q = absurd (omega arith)
  same_bound (suc j) (suc k) (c ∷ s) p q = settled j k c s (λ r h. same_bound j k r (omega arith) (omega arith))

parsed_end : (p n : ℕ) → parse_in p n [] ≡ parse_in p zero []
unfolding parse_in
parsed_end p zero = refl
parsed_end p (suc n) = refl

parsed_settled : (p j k c : ℕ) (s : List ℕ) → ((r : List ℕ) → length r ≤ length s → parse_in p j r ≡ parse_in p k r) → parse_in p (suc j) (c ∷ s) ≡ parse_in p (suc k) (c ∷ s)
unfolding parse_in
parsed_settled p j k c s h = follow-same (length s) (shaped (shape p c) s) (λ r. parse_in p j r) (λ r. parse_in p k r) (shaped_shorter (shape p c) s) h

pub parse-step : (p c : ℕ) (s : List ℕ) → parse p (c ∷ s) ≡ follow (shaped (shape p c) s) (parse p)
unfolding parse parse_in
parse-step p c s =
    follow-same (length s) (shaped (shape p c) s) (λ r. parse_in p (length s) r) (parse p) (shaped_shorter (shape p c) s)
    (λ r h. same_bound (parse_in p) (parsed_end p) (parsed_settled p) (length s) (length r) r h (omega arith))

pub parse-nil : (p : ℕ) → (parse p) [] ≡ some []
unfolding parse parse_in
parse-nil p = refl
