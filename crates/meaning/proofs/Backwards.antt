-- What is read was spelt so: the other way round of Fronts. Octets that are accepted are the spelling of what is read in them.
use Prim.Native.Nat.{ℕ, zero, suc, ◌+◌, ◌*◌, ◌≤◌, ◌<◌}
use native.Mathlib.Omega.{arith}
use mathlib.Core.Path.{◌≡◌, refl, sym, ap, ap₂, subst, ◌∙◌}
use mathlib.Core.Bool.{Bool, true, false, cond}
use mathlib.Core.Option.{Option, none, some}
use mathlib.Core.List.{List, [], ◌∷◌, ◌++◌, append_assoc, map}
use lib.ListN.{length, take, drop, take-append-drop, length-drop}
use lib.Seq.{length-take-le, drop-drop, drop-cons}
use lib.Dec.{leb}
use borrow.Author.Tests.{leb-true}
use Rattle.meaning.specs.Octets.{octet, at16, be16, part, flat}
use Rattle.meaning.specs.Block.{as_number, as_number_from}
use Rattle.meaning.specs.Reply.{Held, Failed, held_octets, short_octets, failed_octets}
use Rattle.meaning.specs.Capture.{then_read, sized, front_name, front_held, front_failed, several, behind_count, until_end_in, until_end}
use Rattle.meaning.proofs.Lists.{Each, Octets, each_right, each_drop, be16-at16}
use Rattle.meaning.proofs.Decode.{GoodHeld, GoodFailed}
use Rattle.meaning.proofs.Fronts.{GoodName, GoodShort}

-- ---- what is there came of something

pub then_came : {A B : Type 0} (o : Option A) (f : A → Option B) (b : B) → then_read o f ≡ some b → (a : A) × (o ≡ some a) × (f a ≡ some b)
unfolding then_read
then_came none f b e = absurd (let z : ◌≡◌ {A = ℕ} 0 1 = cc in omega arith)
then_came (some a) f b e = (a, refl, e)

pub cond_came : {A : Type 0} (b : Bool) (x y : A) → cond b (some x) none ≡ some y → (b ≡ true) × (x ≡ y)
cond_came true x y e = (refl, cc)
cond_came false x y e = absurd (let z : ◌≡◌ {A = ℕ} 0 1 = cc in omega arith)

pub some_same : {A : Type 0} {x y : A} → some x ≡ some y → x ≡ y
some_same e = cc

-- ---- octets behind a length

module _ (s c t : List ℕ) (o : Octets s) where
  sized_came : (w : ℕ) → sized w s ≡ some (c, t) → (w + as_number (take w s) ≤ length s) × (part s w (as_number (take w s)) ≡ c) × (drop (w + as_number (take w s)) s ≡ t)
  unfolding sized
  sized_came w e =
      let p = cond_came (leb (w + as_number (take w s)) (length s)) _ (c, t) e in
      (leb-true _ _ p.0, ap (λ (x : List ℕ × List ℕ). x.0) p.1, ap (λ (x : List ℕ × List ℕ). x.1) p.1)

pub alone_came : (s c t : List ℕ) → Octets s → sized 0 s ≡ some (c, t) → (s ≡ t) × (c ≡ [])
unfolding as_number as_number_from part
alone_came s c t o e = let p = sized_came s c t o 0 e in (p.2, sym p.1)

-- n octets and those behind them
split : (r c t : List ℕ) (n : ℕ) → n ≤ length r → take n r ≡ c → drop n r ≡ t → (length c ≡ n) × (r ≡ c ++ t)
split r c t n h e f = (ap length (sym e) ∙ length-take-le n r h, sym (take-append-drop n r) ∙ ap₂ ◌++◌ e f)

pub one_came : (s c t : List ℕ) → Octets s → sized 1 s ≡ some (c, t) → (s ≡ length c ∷ c ++ t) × (length c < 256)
unfolding as_number as_number_from part
one_came [] c t o e = absurd (omega (arith, (sized_came [] c t o 1 e).0))
one_came (x ∷ r) c t o e =
    let p = sized_came (x ∷ r) c t o 1 e in
    let d : drop (1 + x) (x ∷ r) ≡ drop x r = sym (drop-drop x 1 (x ∷ r)) in
    let n : 0 * 256 + x ≡ x = omega arith in
    let q = split r c t x (omega (arith, p.0)) (rw n at p.1) (sym d ∙ (rw n at p.2)) in
    (rw q.0 (ap (λ (l : List ℕ). x ∷ l) q.1), omega (arith, q.0, o.0))

pub two_came : (s c t : List ℕ) → Octets s → sized 2 s ≡ some (c, t) → (s ≡ be16 (length c) ++ (c ++ t)) × (length c < 65536)
unfolding as_number as_number_from part
two_came [] c t o e = absurd (omega (arith, (sized_came [] c t o 2 e).0))
two_came (x ∷ []) c t o e = absurd (omega (arith, (sized_came (x ∷ []) c t o 2 e).0))
two_came (x ∷ y ∷ r) c t o e =
    let p = sized_came (x ∷ y ∷ r) c t o 2 e in
    let k : ℕ = x * 256 + y in
    let d : drop (2 + k) (x ∷ y ∷ r) ≡ drop k r = sym (drop-drop k 2 (x ∷ y ∷ r)) in
    let n : (0 * 256 + x) * 256 + y ≡ k = omega arith in
    let q = split r c t k (omega (arith, p.0, n)) (rw n at p.1) (sym d ∙ (rw n at p.2)) in
    (rw (q.0, be16-at16 x y o.0 o.1.0) (ap (λ (l : List ℕ). x ∷ y ∷ l) q.1), omega (arith, q.0, o.0, o.1.0))

-- ---- a record at the front

-- what is read at the front of octets is spelt there
abbrev pub Came : {A : Type 0} → (A → List ℕ) → (List ℕ → Option (A × List ℕ)) → (A → Type 0) → Type 0
Came {A} f one Good = (s : List ℕ) (a : A) (t : List ℕ) → Octets s → one s ≡ some (a, t) → (s ≡ f a ++ t) × Good a

-- the octets behind a name
named : (s : List ℕ) → Octets s → 2 ≤ length s → (s ≡ be16 (at16 s 0) ++ drop 2 s) × (at16 s 0 < 65536)
unfolding at16
named [] o h = absurd (omega arith)
named (x ∷ []) o h = absurd (omega arith)
named (x ∷ y ∷ r) o h = (rw (be16-at16 x y o.0 o.1.0), omega (arith, o.0, o.1.0))

pub name_came : Came be16 front_name GoodName
unfolding front_name
name_came s n t o e =
    let p = cond_came (leb 2 (length s)) (at16 s 0, drop 2 s) (n, t) e in
    let q = named s o (leb-true 2 (length s) p.0) in
    let a : at16 s 0 ≡ n = ap (λ (x : ℕ × List ℕ). x.0) p.1 in
    let b : drop 2 s ≡ t = ap (λ (x : ℕ × List ℕ). x.1) p.1 in
    (rw a at (rw b at q.0), rw a at q.1)

-- a name and octets behind a length, which are spelt as `f` says
held_split : (w : ℕ) (f : List ℕ → List ℕ) (s : List ℕ) (h : Held) (t : List ℕ) → Octets s
    → ((c : List ℕ) → sized w (drop 2 s) ≡ some (c, t) → (drop 2 s ≡ f c ++ t) × (1 ≤ length (drop 2 s)))
    → front_held w s ≡ some (h, t) → (s ≡ be16 h.name ++ (f h.value ++ t)) × (h.name < 65536) × (sized w (drop 2 s) ≡ some (h.value, t))
unfolding front_held
held_split w f s h t o k e =
    let p = then_came (sized w (drop 2 s)) _ (h, t) e in
    let v = p.0 in
    let n : at16 s 0 ≡ h.name = ap (λ (x : Option (Held × List ℕ)). name_or x) p.2 in
    let c : v.0 ≡ h.value = ap (λ (x : Option (Held × List ℕ)). value_or x) p.2 in
    let b : v.1 ≡ t = ap (λ (x : Option (Held × List ℕ)). behind_or x) p.2 in
    let i : sized w (drop 2 s) ≡ some (h.value, t) = p.1 ∙ ap₂ (λ (a b : List ℕ). some (a, b)) c b in
    let d = k h.value i in
    let q = named s o (omega (arith, d.1, length-drop 2 s)) in
    (rw n at (rw d.0 at q.0), rw n at q.1, i)
  where
    name_or : Option (Held × List ℕ) → ℕ
    name_or none = 0
    name_or (some x) = x.0.name

    value_or : Option (Held × List ℕ) → List ℕ
    value_or none = []
    value_or (some x) = x.0.value

    behind_or : Option (Held × List ℕ) → List ℕ
    behind_or none = []
    behind_or (some x) = x.1

octets-drop : (n : ℕ) (s : List ℕ) → Octets s → Octets (drop n s)
octets-drop n s o = each_drop (λ x. x < 256) n s o

two_key : (r c t : List ℕ) → Octets r → sized 2 r ≡ some (c, t) → (r ≡ be16 (length c) ++ c ++ t) × (1 ≤ length r)
two_key r c t o e =
    let p = two_came r c t o e in
    let l : length (be16 (length c) ++ (c ++ t)) ≡ 2 + length (c ++ t) = unfold be16 in omega arith in
    (p.0 ∙ sym (append_assoc (be16 (length c)) c t), omega (arith, ap length p.0, l))

one_key : (r c t : List ℕ) → Octets r → sized 1 r ≡ some (c, t) → (r ≡ length c ∷ c ++ t) × (1 ≤ length r)
one_key r c t o e = let p = one_came r c t o e in (p.0, omega (arith, ap length p.0))

pub held_came : Came held_octets (front_held 2) GoodHeld
unfolding held_octets
held_came s h t o e =
    let p = held_split 2 (λ c. be16 (length c) ++ c) s h t o (λ c i. two_key (drop 2 s) c t (octets-drop 2 s o) i) e in
    (p.0 ∙ sym (append_assoc (be16 h.name) (be16 (length h.value) ++ h.value) t), (p.1, (two_came (drop 2 s) h.value t (octets-drop 2 s o) p.2).1))

pub short_came : Came short_octets (front_held 1) GoodShort
unfolding short_octets
short_came s h t o e =
    let p = held_split 1 (λ c. length c ∷ c) s h t o (λ c i. one_key (drop 2 s) c t (octets-drop 2 s o) i) e in
    (p.0 ∙ sym (append_assoc (be16 h.name) (length h.value ∷ h.value) t), (p.1, (one_came (drop 2 s) h.value t (octets-drop 2 s o) p.2).1))

-- an error with its cause as it stands
pub failed_came : Came failed_octets (front_failed (λ c. c)) GoodFailed
unfolding front_failed failed_octets
failed_came s f t o e =
    let p = cond_came (leb 3 (length s)) (record { name = at16 s 0; cause = octet s 2 }, drop 3 s) (f, t) e in
    let h : 3 ≤ length s = leb-true 3 (length s) p.0 in
    let q = named s o (omega arith) in
    let n : at16 s 0 ≡ f.name = ap (λ (x : Failed × List ℕ). x.0.name) p.1 in
    let c : octet s 2 ≡ f.cause = ap (λ (x : Failed × List ℕ). x.0.cause) p.1 in
    let b : drop 3 s ≡ t = ap (λ (x : Failed × List ℕ). x.1) p.1 in
    let d : drop 2 s ≡ f.cause ∷ t = drop-cons s 2 0 (omega arith) ∙ ap₂ (λ (a : ℕ) (l : List ℕ). a ∷ l) c b in
    (rw n at (rw d at q.0) ∙ sym (append_assoc (be16 f.name) (f.cause ∷ []) t), rw n at q.1)

-- ---- several records

module _ {A : Type 0} (f : A → List ℕ) (one : List ℕ → Option (A × List ℕ)) (Good : A → Type 0) (came : Came f one Good) where
  -- a record and what is read behind it
  first_came : {B : Type 0} (s : List ℕ) (rest : List ℕ → Option B) (g : A → B → B) (b : B) → Octets s → then_read (one s) (λ a. then_read (rest a.1) (λ x. some (g a.0 x))) ≡ some b
      → (a : A) × (x : B) × (t : List ℕ) × (s ≡ f a ++ t) × Good a × Octets t × (rest t ≡ some x) × (g a x ≡ b)
  first_came s rest g b o e =
      let p = then_came (one s) _ b e in
      let q = then_came (rest p.0.1) _ b p.2 in
      let c = came s p.0.0 p.0.1 o p.1 in
      (p.0.0, q.0, p.0.1, c.0, c.1, each_right (λ x. x < 256) (f p.0.0) p.0.1 (rw c.0 at o), q.1, some_same q.2)

  -- n records that spell s up to what is behind them
  abbrev Spells : ℕ → List ℕ → List A × List ℕ → Type 0
  Spells n s r = (length r.0 ≡ n) × (s ≡ flat f r.0 ++ r.1) × Each Good r.0 × Octets r.1

  spells_more : (n : ℕ) (s t : List ℕ) (a : A) (r : List A × List ℕ) → s ≡ f a ++ t → Good a → Spells n t r → Spells (suc n) s (a ∷ r.0, r.1)
  unfolding flat
  spells_more n s t a r e g h = (ap suc h.0, e ∙ ap (λ (l : List ℕ). f a ++ l) h.1 ∙ sym (append_assoc (f a) (flat f r.0) r.1), (g, h.2), h.3)

  pub several_came : (n : ℕ) (s : List ℕ) (r : List A × List ℕ) → Octets s → several one n s ≡ some r → Spells n s r
  unfolding several flat
  several_came zero s r o e = subst (Spells 0 s) (some_same e) (refl, refl, tt, o)
  several_came (suc n) s r o e =
      let p = first_came s (several one n) (λ a x. (a ∷ x.0, x.1)) r o e in
      subst (Spells (suc n) s) p.7 (spells_more n s p.2 p.0 p.1 p.3 p.4 (several_came n p.2 p.1 p.5 p.6))

  pub count_came : (s : List ℕ) (r : List A × List ℕ) → Octets s → behind_count one s ≡ some r → (s ≡ length r.0 ∷ flat f r.0 ++ r.1) × Each Good r.0 × Octets r.1
  unfolding behind_count
  count_came [] r o e = absurd (let z : ◌≡◌ {A = ℕ} 0 1 = cc in omega arith)
  count_came (n ∷ s) r o e = let p = several_came n s r o.1 e in (rw p.0 (ap (λ (l : List ℕ). n ∷ l) p.1), p.2, p.3)

  abbrev SpellsAll : List ℕ → List A → Type 0
  SpellsAll s l = (s ≡ flat f l) × Each Good l

  end_came_in : (n : ℕ) (s : List ℕ) (l : List A) → Octets s → until_end_in one n s ≡ some l → SpellsAll s l
  unfolding until_end_in flat
  end_came_in zero [] l o e = subst (SpellsAll []) (some_same e) (refl, tt)
  end_came_in zero (x ∷ s) l o e = absurd (let z : ◌≡◌ {A = ℕ} 0 1 = cc in omega arith)
  end_came_in (suc n) [] l o e = subst (SpellsAll []) (some_same e) (refl, tt)
  end_came_in (suc n) (x ∷ s) l o e =
      let p = first_came (x ∷ s) (until_end_in one n) (λ a l'. a ∷ l') l o e in
      let h = end_came_in n p.2 p.1 p.5 p.6 in
      subst (SpellsAll (x ∷ s)) p.7 (p.3 ∙ ap (λ (k : List ℕ). f p.0 ++ k) h.0, (p.4, h.1))

  pub end_came : (s : List ℕ) (l : List A) → Octets s → until_end one s ≡ some l → SpellsAll s l
  unfolding until_end
  end_came s l o e = end_came_in (length s) s l o e

-- ---- causes: read as they stand, then told as they read

abbrev pub reading : (ℕ → ℕ) → Failed → Failed
reading cause f = record { name = f.name; cause = cause f.cause }

-- errors with their causes as they read, from errors as they stand
unfoldable pub read_as : (ℕ → ℕ) → Option (List Failed × List ℕ) → Option (List Failed × List ℕ)
read_as cause none = none
read_as cause (some r) = some (map (reading cause) r.0, r.1)

more-read : (cause : ℕ → ℕ) (f : Failed) (x : Option (List Failed × List ℕ))
    → then_read (read_as cause x) (λ r. some (reading cause f ∷ r.0, r.1)) ≡ read_as cause (then_read x (λ r. some (f ∷ r.0, r.1)))
unfolding read_as then_read
more-read cause f none = refl
more-read cause f (some r) = refl

one_read : (cause : ℕ → ℕ) (n : ℕ) (s : List ℕ) → several (front_failed cause) n (drop 3 s) ≡ read_as cause (several (front_failed (λ c. c)) n (drop 3 s))
    → several (front_failed cause) (suc n) s ≡ read_as cause (several (front_failed (λ c. c)) (suc n) s)
unfolding several read_as front_failed then_read
one_read cause n s ih = go (leb 3 (length s))
  where
    here : Failed
    here = record { name = at16 s 0; cause = octet s 2 }

    go : (b : Bool)
        → then_read {A = Failed × List ℕ} {B = List Failed × List ℕ} (cond b (some (reading cause here, drop 3 s)) none) (λ a. then_read {B = List Failed × List ℕ} (several (front_failed cause) n a.1) (λ as'. some (a.0 ∷ as'.0, as'.1)))
        ≡ read_as cause (then_read {A = Failed × List ℕ} {B = List Failed × List ℕ} (cond b (some (here, drop 3 s)) none) (λ a. then_read {B = List Failed × List ℕ} (several (front_failed (λ c. c)) n a.1) (λ as'. some (a.0 ∷ as'.0, as'.1))))
    go true = rw ih (more-read cause here (several (front_failed (λ c. c)) n (drop 3 s)))
    go false = refl

pub causes_read : (cause : ℕ → ℕ) (n : ℕ) (s : List ℕ) → several (front_failed cause) n s ≡ read_as cause (several (front_failed (λ c. c)) n s)
unfolding several read_as
causes_read cause zero s = refl
causes_read cause (suc n) s = one_read cause n s (causes_read cause n (drop 3 s))

pub count-read : (cause : ℕ → ℕ) (s : List ℕ) → behind_count (front_failed cause) s ≡ read_as cause (behind_count (front_failed (λ c. c)) s)
unfolding behind_count read_as
count-read cause [] = refl
count-read cause (n ∷ s) = causes_read cause n s
