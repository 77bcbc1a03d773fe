-- What is spelt reads back: octets in pairs of digits of either case with blanks between them, also behind `0` and blanks; a number
-- and `-`. A comment changes nothing.
use Prim.Native.Nat.{ℕ, ◌+◌, ◌*◌, ◌/◌, ◌%◌, ◌≤◌, ◌<◌}
use native.Mathlib.Omega.{arith}
use mathlib.Core.Path.{◌≡◌, refl, sym, ap, subst, ◌∙◌}
use mathlib.Core.Logic.{◌⊎◌, inl, inr}
use mathlib.Core.Bool.{Bool, true, false, ◌&&◌, ◌||◌, cond, or-true}
use mathlib.Core.List.{List, [], ◌∷◌, ◌++◌, map, append_assoc, append-nil}
use lib.ListN.{length, length-append, length-map}
use lib.Seq.{take_all}
use lib.Dec.{eqb, ltb}
use borrow.Author.Tests.{ltb-true, ltb-false, lt-ltb, eqb-true, ne_eqb}
use Rattle.meaning.specs.Octets.{flat}
use Rattle.meaning.proofs.Lists.{Each}
use Rattle.meaning.proofs.Tests.{or_cases}
use Rattle.typed.specs.declared.Sign.{Sign}
use Rattle.typed.specs.declared.Sign.TheVariants.{Hex, Space, Dash}
use Rattle.typed.specs.declared.Form.{Form}
use Rattle.typed.specs.declared.Form.TheVariants.{Blank, Digit, Lead, Number, Numbered, Octets, Half, Refused}
use Rattle.typed.specs.Signs.{is_blank, sign_of}
use Rattle.typed.specs.Forms.{by_sign, paired, form_after, completed_by, completed, Typed, typing, fresh, typed, typed_all}
use Rattle.typed.proofs.Signs.{decimal, small_letter, capital, Known, no_hash}

-- ---- texts

abbrev pub Blanks : List ℕ → Type 0
Blanks s = Each (λ c. is_blank c ≡ true) s

-- a digit, its letter small or capital
abbrev pub spell : Bool → ℕ → ℕ
spell great h = cond (ltb h 10) (48 + h) (cond great (55 + h) (87 + h))

-- an octet as it may be spelt, with what may stand ahead of it
pub record Pair : Type 0 where
  pub ahead : List ℕ
  pub octet : ℕ
  pub high : Bool
  pub low : Bool

abbrev pub spelling : Pair → List ℕ
spelling p = p.ahead ++ (spell p.high (p.octet / 16) ∷ spell p.low (p.octet % 16) ∷ [])

abbrev pub Good : Pair → Type 0
Good p = Blanks p.ahead × (p.octet < 256)

-- ---- what each character is

sign_spelt : (great : Bool) (h : ℕ) → h < 16 → sign_of (spell great h) ≡ Hex h
sign_spelt great h k = at (ltb h 10) refl great
  where
    at : (b : Bool) → ltb h 10 ≡ b → (g : Bool) → sign_of (cond b (48 + h) (cond g (55 + h) (87 + h))) ≡ Hex h
    at true e g = decimal (48 + h) (omega arith) (omega (arith, ltb-true h 10 e)) ∙ ap Hex (omega arith)
    at false e true = let l = ltb-false h 10 e in capital (55 + h) (omega arith) (omega arith) ∙ ap Hex (omega arith)
    at false e false = let l = ltb-false h 10 e in small_letter (87 + h) (omega arith) (omega arith) ∙ ap Hex (omega arith)

sign_blank : (c : ℕ) → is_blank c ≡ true → sign_of c ≡ Space
unfolding sign_of is_blank
sign_blank c e = at (or_cases (eqb c 32) _ e)
  where
    or_last : (eqb c 9 ≡ true) ⊎ (eqb c 13 ≡ true) → sign_of c ≡ Space
    or_last (inl f) = ap sign_of (eqb-true c 9 f)
    or_last (inr f) = ap sign_of (eqb-true c 13 f)

    at : (eqb c 32 ≡ true) ⊎ ((eqb c 9 || eqb c 13) ≡ true) → sign_of c ≡ Space
    at (inl f) = ap sign_of (eqb-true c 32 f)
    at (inr f) = or_last (or_cases (eqb c 9) (eqb c 13) f)

dash : sign_of 45 ≡ Dash
unfolding sign_of is_blank
dash = refl

-- ---- forms of lines that are spelt

-- whole octets
pub data Whole : Form → Type 0 where
  number : {n : ℕ} → Whole (Number n)
  numbered : {n : ℕ} → Whole (Numbered n)
  octets : Whole Octets

-- a pair may follow
data Open : Form → Type 0 where
  start : Open Blank
  zeroed : Open (Lead 0)
  whole : {f : Form} → Whole f → Open f

-- half of a pair
data Begun (h : ℕ) : Form → Type 0 where
  first : Begun h (Digit h)
  half : Begun h (Half h)

whole_space : (f : Form) → Whole f → Whole (form_after f Space)
unfolding form_after by_sign
whole_space f number = numbered
whole_space f numbered = numbered
whole_space f octets = octets

open_space : (f : Form) → Open f → Open (form_after f Space)
unfolding form_after by_sign
open_space f start = start
open_space f zeroed = zeroed
open_space f (whole w) = whole (whole_space f w)

begins : (h : ℕ) {f : Form} → Open f → Begun h (form_after f (Hex h)) × (completed f (Hex h) ≡ [])
unfolding form_after by_sign completed completed_by
begins h start = (first, refl)
begins h zeroed = (half, refl)
begins h (whole number) = (half, refl)
begins h (whole numbered) = (half, refl)
begins h (whole octets) = (half, refl)

ends : (h d : ℕ) {f : Form} → Begun h f → Whole (form_after f (Hex d)) × (completed f (Hex d) ≡ (h * 16 + d) ∷ [])
unfolding form_after by_sign completed completed_by paired
ends h d first = (at (ltb h 10 && ltb d 10), refl)
  where
    at : (b : Bool) → Whole (cond b (Number (10 * h + d)) Octets)
    at true = number
    at false = octets
ends h d half = (octets, refl)

-- ---- texts taken

-- a line without a comment whose form has a property, and its octets
pub record Reads (P : Form → Type 0) (t : Typed) (o : List ℕ) : Type 0 where
  pub form : P t.form
  pub plain : t.comment ≡ false
  pub octets : t.octets ≡ o

step : {P Q : Form → Type 0} {t : Typed} {o : List ℕ} (c : ℕ) (s : Sign) (m : List ℕ) → sign_of c ≡ s → Known s → Reads P t o → Q (form_after t.form s) → completed t.form s ≡ m
    → length o + length m ≤ 4097 → Reads Q (typed t c) (o ++ m)
unfolding typed
step {t = t} {o = o} c s m e k r q z h =
    let n : length (o ++ m) ≤ 4097 = simp length-append (omega arith) in
    let b : (t.comment || eqb c 35) ≡ false = rw (r.plain, ne_eqb c 35 (no_hash c s e k)) in
    record {
      form = rw (b, e) q;
      plain = rw b;
      octets = rw (b, e, z, r.octets) (take_all 4097 (o ++ m) n);
    }

pub typed-append : (t : Typed) (a b : List ℕ) → typed_all t (a ++ b) ≡ typed_all (typed_all t a) b
unfolding typed_all
typed-append t [] b = refl
typed-append t (c ∷ a) b = typed-append (typed t c) a b

blanks : {P : Form → Type 0} {t : Typed} {o : List ℕ} (b : List ℕ) → ((f : Form) → P f → P (form_after f Space)) → Blanks b → length o ≤ 4097 → Reads P t o → Reads P (typed_all t b) o
unfolding typed_all completed
blanks [] stays g h r = r
blanks {P} {t} {o} (c ∷ b) stays g h r =
    let s : Reads P (typed t c) (o ++ []) = step c Space [] (sign_blank c g.0) tt r (stays _ r.form) refl (omega arith) in
    blanks {P = P} {t = typed t c} {o = o} b stays g.1 h (rw append-nil at s)

pair : {t : Typed} {o : List ℕ} (p : Pair) → Good p → length o < 4097 → Reads Open t o → Reads Whole (typed_all t (spelling p)) (o ++ (p.octet ∷ []))
unfolding typed_all
pair {t} {o} p g h r =
    let x = p.octet in
    let u = typed_all t p.ahead in
    let v = typed u (spell p.high (x / 16)) in
    let a : Reads Open u o = blanks p.ahead open_space g.0 (omega arith) r in
    let b = begins (x / 16) a.form in
    let d : Reads (Begun (x / 16)) v (o ++ []) = step _ (Hex (x / 16)) [] (sign_spelt p.high (x / 16) (omega (arith, g.1))) tt a b.0 b.1 (omega arith) in
    let e : x / 16 * 16 + x % 16 ≡ x = omega arith in
    let k = ends (x / 16) (x % 16) d.form in
    rw (typed-append t p.ahead (spell p.high (x / 16) ∷ spell p.low (x % 16) ∷ []))
    (step _ (Hex (x % 16)) (x ∷ []) (sign_spelt p.low (x % 16) (omega arith)) tt (rw append-nil at d) k.0 (rw e at k.1) (omega arith))

pairs : {t : Typed} {o : List ℕ} (ps : List Pair) → Each Good ps → length o + length ps ≤ 4097 → Reads Whole t o → Reads Whole (typed_all t (flat spelling ps)) (o ++ map (λ p. p.octet) ps)
unfolding typed_all flat
pairs [] g h r = rw append-nil r
pairs {t} {o} (p ∷ ps) g h r =
    let w : Reads Open t o = record { form = whole r.form; plain = r.plain; octets = r.octets } in
    let s = pair p g.0 (omega arith) w in
    let n : length (o ++ (p.octet ∷ [])) ≡ length o + 1 = simp length-append in
    rw (typed-append t (spelling p) (flat spelling ps), sym (append_assoc o (p.octet ∷ []) (map (λ q. q.octet) ps)))
    (pairs {t = typed_all t (spelling p)} {o = o ++ (p.octet ∷ [])} ps g.1 (omega arith) s)

-- octets from a form in which they may begin, and blanks behind them
octets-read : (t : Typed) (p : Pair) (ps : List Pair) (end : List ℕ) → Reads Open t [] → Each Good (p ∷ ps) → Blanks end → length (p ∷ ps) ≤ 4097
    → Reads Whole (typed_all t (flat spelling (p ∷ ps) ++ end)) (map (λ q. q.octet) (p ∷ ps))
unfolding flat
octets-read t p ps end r g e h =
    let n : length (map (λ q. q.octet) (p ∷ ps)) ≤ 4097 = simp length-map (omega arith) in
    rw (append_assoc (spelling p) (flat spelling ps) end, typed-append t (spelling p) (flat spelling ps ++ end), typed-append _ (flat spelling ps) end)
    (blanks end whole_space e n (pairs ps g.1 (omega arith) (pair p g.0 (omega arith) r)))

-- ---- the laws

-- octets of any number up to 4,097, blanks ahead, between and behind
pub spelt_reads_back : (p : Pair) (ps : List Pair) (end : List ℕ) → Each Good (p ∷ ps) → Blanks end → length (p ∷ ps) ≤ 4097
    → Reads Whole (typed_all fresh (flat spelling (p ∷ ps) ++ end)) (map (λ q. q.octet) (p ∷ ps))
spelt_reads_back p ps end g e h = octets-read fresh p ps end (record { form = start; plain = refl; octets = refl }) g e h

-- ---- one form after another

abbrev Is : Form → Form → Type 0
Is g f = f ≡ g

-- blanks, behind which the form is the same
resting : (g : Form) {t : Typed} {o : List ℕ} (b : List ℕ) → form_after g Space ≡ g → Blanks b → length o ≤ 4097 → Reads (Is g) t o → Reads (Is g) (typed_all t b) o
resting g b e k h r = blanks b (λ f i. ap (λ (x : Form). form_after x Space) i ∙ e) k h r

-- one character that completes no octet
moving : (f g : Form) {t : Typed} {o : List ℕ} (c : ℕ) (s : Sign) → sign_of c ≡ s → Known s → form_after f s ≡ g → completed f s ≡ [] → length o ≤ 4097 → Reads (Is f) t o → Reads (Is g) (typed t c) o
moving f g c s e k i z h r =
    rw append-nil at (step {Q = Is g} c s [] e k r (ap (λ (x : Form). form_after x s) r.form ∙ i) (ap (λ (x : Form). completed x s) r.form ∙ z) (omega arith))

fresh_reads : Reads (Is Blank) fresh []
fresh_reads = record { form = refl; plain = refl; octets = refl }

-- a digit behind blanks
digit_reads : (a : List ℕ) (n : ℕ) → n < 10 → Blanks a → Reads (Is (Digit n)) (typed_all fresh (a ++ ((48 + n) ∷ []))) []
unfolding typed_all form_after by_sign completed completed_by
digit_reads a n h k =
    let e : sign_of (48 + n) ≡ Hex n = decimal (48 + n) (omega arith) (omega arith) ∙ ap Hex (omega arith) in
    rw (typed-append fresh a ((48 + n) ∷ []))
    (moving Blank (Digit n) (48 + n) (Hex n) e tt refl refl (omega arith) (resting Blank a refl k (omega arith) fresh_reads))

-- blanks, at least one
leaving : (f g : Form) {t : Typed} {o : List ℕ} (c : ℕ) (b : List ℕ) → form_after f Space ≡ g → form_after g Space ≡ g → Blanks (c ∷ b) → length o ≤ 4097 → Reads (Is f) t o → Reads (Is g) (typed_all t (c ∷ b)) o
unfolding typed_all completed
leaving f g c b i j k h r = resting g b j k.1 h (moving f g c Space (sign_blank c k.0) tt i refl h r)

-- ---- `0` ahead, numbers and `-`, comments

-- octets behind `0` and blanks, as they are printed behind a number
pub zero-ahead : (a b : List ℕ) (c : ℕ) (p : Pair) (ps : List Pair) (end : List ℕ) → Blanks a → Blanks (c ∷ b) → Each Good (p ∷ ps) → Blanks end → length (p ∷ ps) ≤ 4097
    → Reads Whole (typed_all fresh ((a ++ (48 ∷ [])) ++ ((c ∷ b) ++ (flat spelling (p ∷ ps) ++ end)))) (map (λ q. q.octet) (p ∷ ps))
unfolding form_after by_sign
zero-ahead a b c p ps end k l g e h =
    let t = typed_all fresh (a ++ (48 ∷ [])) in
    let u = typed_all t (c ∷ b) in
    let r : Reads (Is (Lead 0)) u [] = leaving (Digit 0) (Lead 0) c b refl refl l (omega arith) (digit_reads a 0 (omega arith) k) in
    let o : Reads Open u [] = record { form = subst Open (sym r.form) zeroed; plain = r.plain; octets = r.octets } in
    rw (typed-append fresh (a ++ (48 ∷ [])) ((c ∷ b) ++ (flat spelling (p ∷ ps) ++ end)), typed-append t (c ∷ b) (flat spelling (p ∷ ps) ++ end))
    (octets-read u p ps end o g e h)

-- blanks and `-` behind a number
refused : (f g : Form) (n : ℕ) {t : Typed} {o : List ℕ} (c : ℕ) (b e : List ℕ) → form_after f Space ≡ g → form_after g Space ≡ g → form_after g Dash ≡ Refused n → length o ≤ 4097
    → Blanks (c ∷ b) → Blanks e → Reads (Is f) t o → Reads (Is (Refused n)) (typed_all t ((c ∷ b) ++ (45 ∷ e))) o
unfolding typed_all form_after by_sign completed
refused f g n {t} c b e i j d h k l r =
    rw (typed-append t (c ∷ b) (45 ∷ e))
    (resting (Refused n) e refl l h (moving g (Refused n) 45 Dash dash tt d refl h (leaving f g c b i j k h r)))

-- a number of one digit, and one of two, the first of which may be 0
pub short-number : (n c : ℕ) (a b e : List ℕ) → n < 10 → Blanks a → Blanks (c ∷ b) → Blanks e
    → (typed_all fresh ((a ++ ((48 + n) ∷ [])) ++ ((c ∷ b) ++ (45 ∷ e)))).form ≡ Refused n
unfolding form_after by_sign
short-number n c a b e h k l m =
    rw (typed-append fresh (a ++ ((48 + n) ∷ [])) ((c ∷ b) ++ (45 ∷ e)))
    (refused (Digit n) (Lead n) n c b e (rw (lt-ltb n 10 h)) refl refl (omega arith) l m (digit_reads a n h k)).form

pub long-number : (n c : ℕ) (a b e : List ℕ) → n < 100 → Blanks a → Blanks (c ∷ b) → Blanks e
    → (typed_all fresh ((a ++ ((48 + n / 10) ∷ [])) ++ ((48 + n % 10) ∷ ((c ∷ b) ++ (45 ∷ e))))).form ≡ Refused n
unfolding typed_all form_after by_sign paired completed completed_by
long-number n c a b e h k l m =
    let x = n / 10 in
    let y = n % 10 in
    let p : x < 10 = omega arith in
    let q : y < 10 = omega arith in
    let t = typed_all fresh (a ++ ((48 + x) ∷ [])) in
    let r = digit_reads a x p k in
    let s : sign_of (48 + y) ≡ Hex y = decimal (48 + y) (omega arith) (omega arith) ∙ ap Hex (omega arith) in
    let i : form_after (Digit x) (Hex y) ≡ Number n = rw (lt-ltb x 10 p, lt-ltb y 10 q) (ap Number (omega arith)) in
    let w : Reads (Is (Number n)) (typed t (48 + y)) ((x * 16 + y) ∷ []) =
    step (48 + y) (Hex y) ((x * 16 + y) ∷ []) s tt r (ap (λ (f : Form). form_after f (Hex y)) r.form ∙ i) (ap (λ (f : Form). completed f (Hex y)) r.form) (omega arith) in
    rw (typed-append fresh (a ++ ((48 + x) ∷ [])) ((48 + y) ∷ ((c ∷ b) ++ (45 ∷ e))))
    (refused (Number n) (Numbered n) n c b e refl refl refl (omega arith) l m w).form

-- what stands behind `#` changes nothing
comment_stays : (t : Typed) (s : List ℕ) → t.comment ≡ true → typed_all t s ≡ t
unfolding typed_all typed
comment_stays t [] e = refl
comment_stays t (c ∷ s) e =
    let h : typed t c ≡ t = rw e in
    ap (λ (u : Typed). typed_all u s) h ∙ comment_stays t s e

pub comment_drops : (t : Typed) (a s : List ℕ) → typed_all t (a ++ (35 ∷ s)) ≡ typing (typed_all t a).form true (typed_all t a).octets
unfolding typed_all typed
comment_drops t a s =
    let u = typed_all t a in
    let h : typed u 35 ≡ typing u.form true u.octets = rw (or-true u.comment) in
    typed-append t a (35 ∷ s) ∙ ap (λ (v : Typed). typed_all v s) h ∙ comment_stays (typing u.form true u.octets) s refl
