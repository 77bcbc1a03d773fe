-- What a list hands out at a place: one law for each way in which `operation_at` returns.
use Prim.Native.Nat.{ℕ, suc, ◌+◌, ◌-◌, ◌≤◌, ◌<◌}
use native.Mathlib.Omega.{arith}
use mathlib.Core.Path.{◌≡◌, refl, sym, ap, ap₂, ◌∙◌}
use mathlib.Core.Logic.{inl, inr, ⊎_elim}
use mathlib.Core.Bool.{Bool, true, false, cond}
use mathlib.Core.List.{List}
use lib.ListN.{length, drop, get_or, length-drop, drop_of_length-le}
use lib.Seq.{drop-cons, drop-drop, get_or-drop}
use lib.Dec.{eqb}
use borrow.Author.Tests.{le-leb, lt-leb, ne_eqb}
use Rattle.meaning.specs.Octets.{at16, part}
use Rattle.meaning.specs.Operation.{read, set, subscribe, unsubscribe, selective_read, selective_subscribe, selective_unsubscribe, delete_entry, Shape, named, valued, malformed, shape_of, shape, bad, got, whole, shaped, in_message}
use Rattle.meaning.specs.Operation as operation
use Rattle.meaning.specs.Profile.{has_code}
use Rattle.meaning.proofs.Lists.{length_part}
use Rattle.meaning.proofs.Profiles.{low_code, no_code, shape_has, shape_none}
use Rattle.operation.specs.declared.Op.{Op}
use Rattle.operation.specs.declared.Op.TheVariants.{Capabilities, Read, Set, Subscribe, Unsubscribe, SelectiveRead, SelectiveSubscribe, SelectiveUnsubscribe, DeleteEntry}
use Rattle.operation.specs.declared.NamedValue.{NamedValue}
use Rattle.operation.specs.Handing.{op_at, value_at, NoValue, handed, refused, ended, found_at, handed_from, handed_at}

-- with fewer than two octets after its code, every operation but get capabilities is cut short
abbrev Cut : Shape → Type 0
Cut sh = (r : List ℕ) → length r < 2 → shaped sh r ≡ bad

pub whole_there : (w : ℕ) (r : List ℕ) (o : operation.Op) → w ≤ length r → whole w r o ≡ got o (drop w r)
unfolding whole
whole_there w r o h = rw (le-leb w (length r) h)

pub whole_cut : (w : ℕ) (r : List ℕ) (o : operation.Op) → length r < w → whole w r o ≡ bad
unfolding whole
whole_cut w r o h = rw (lt-leb w (length r) h)

named_cut : (f : ℕ → operation.Op) → Cut (named f)
unfolding shaped
named_cut f = λ r h. whole_cut 2 r (f (at16 r 0)) h

-- with fewer octets after its code than reach to its value's end, every operation that has a value is cut short
abbrev CutValue : Shape → Type 0
CutValue sh = (r : List ℕ) → length r < 4 + at16 r 2 → shaped sh r ≡ bad

valued-short : (f : ℕ → List ℕ → operation.Op) → CutValue (valued f)
unfolding shaped
valued-short f = λ r h. whole_cut (4 + at16 r 2) r (f (at16 r 0) (part r 4 (at16 r 2))) h

malformed-short : CutValue malformed
unfolding shaped
malformed-short = λ r h. refl

-- which is so with fewer than two octets
short_cut : (sh : Shape) → CutValue sh → Cut sh
short_cut sh k = λ r h. k r (omega arith)

pub either : (P : Shape → Type 0) (b : Bool) (x y : Shape) → P x → P y → P (cond b x y)
either P true x y l r = l
either P false x y l r = r

-- a code that the profile has not is malformed
code_missing : (p c : ℕ) → has_code p c ≡ false → shape p c ≡ malformed
code_missing p c e = shape_none p c (no_code p c e).0 (no_code p c e).1

-- so what holds of the shape that a code has, and of what is malformed, holds in every profile
pub in_profile : (P : Shape → Type 0) (p c : ℕ) → P (shape_of c) → P malformed → P (shape p c)
in_profile P p c l r = go (has_code p c) refl
  where
    go : (b : Bool) → has_code p c ≡ b → P (shape p c)
    go true e = rw (shape_has p c e) l
    go false e = rw (code_missing p c e) r

known_cut : (c : ℕ) → (c ≡ 1 → ⊥) → Cut (shape_of c)
unfolding shape_of
known_cut c n =
    rw (ne_eqb c 1 n)
    (either Cut (eqb c 2) _ _ (named_cut read)
    (either Cut (eqb c 3) _ _ (short_cut _ (valued-short set))
    (either Cut (eqb c 4) _ _ (named_cut subscribe)
    (either Cut (eqb c 5) _ _ (named_cut unsubscribe)
    (either Cut (eqb c 6) _ _ (short_cut _ (valued-short selective_read))
    (either Cut (eqb c 7) _ _ (short_cut _ (valued-short selective_subscribe))
    (either Cut (eqb c 8) _ _ (short_cut _ (valued-short selective_unsubscribe))
    (either Cut (eqb c 9) _ _ (short_cut _ (valued-short delete_entry)) (short_cut _ malformed-short)))))))))

shape_cut : (p c : ℕ) → (c ≡ 1 → ⊥) → Cut (shape p c)
shape_cut p c n = in_profile Cut p c (known_cut c n) (short_cut _ malformed-short)

pub has_value : (c : ℕ) → (c ≡ 1 → ⊥) → (c ≡ 2 → ⊥) → (c ≡ 4 → ⊥) → (c ≡ 5 → ⊥) → NoValue c → ⊥
has_value c a b d e = ⊎_elim a (⊎_elim b (⊎_elim d e))

-- the shapes that are left where no code of those without a value stands
value-shape : (c : ℕ) → (NoValue c → ⊥)
    → shape_of c ≡ cond (eqb c 3) (valued set) (cond (eqb c 6) (valued selective_read) (cond (eqb c 7) (valued selective_subscribe) (cond (eqb c 8) (valued selective_unsubscribe) (cond (eqb c 9) (valued delete_entry) malformed))))
unfolding shape_of
value-shape c n =
    rw (ne_eqb c 1 (λ e. n (inl e)), ne_eqb c 2 (λ e. n (inr (inl e))), ne_eqb c 4 (λ e. n (inr (inr (inl e)))), ne_eqb c 5 (λ e. n (inr (inr (inr e)))))

known_short : (c : ℕ) → (NoValue c → ⊥) → CutValue (shape_of c)
known_short c n =
    rw (value-shape c n)
    (either CutValue (eqb c 3) _ _ (valued-short set)
    (either CutValue (eqb c 6) _ _ (valued-short selective_read)
    (either CutValue (eqb c 7) _ _ (valued-short selective_subscribe)
    (either CutValue (eqb c 8) _ _ (valued-short selective_unsubscribe)
    (either CutValue (eqb c 9) _ _ (valued-short delete_entry) malformed-short)))))

shape-short : (p c : ℕ) → (NoValue c → ⊥) → CutValue (shape p c)
shape-short p c n = in_profile CutValue p c (known_short c n) malformed-short

other_code : (c : ℕ) → (NoValue c → ⊥) → (c ≡ 3 → ⊥) → (c ≡ 6 → ⊥) → (c ≡ 7 → ⊥) → (c ≡ 8 → ⊥) → (c ≡ 9 → ⊥) → shape_of c ≡ malformed
other_code c n a b d e f = value-shape c n ∙ rw (ne_eqb c 3 a, ne_eqb c 6 b, ne_eqb c 7 d, ne_eqb c 8 e, ne_eqb c 9 f)

module _ (s : List ℕ) (at : ℕ) (h : at < length s) where
  -- the octets after the code
  abbrev pub rest : List ℕ
  rest = drop (suc at) s

  pub rest_length : length rest ≡ length s - suc at
  rest_length = length-drop (suc at) s

  pub rest_drop : (k n : ℕ) → suc at + k ≡ n → drop k rest ≡ drop n s
  rest_drop k n e = drop-drop k (suc at) s ∙ ap (λ (i : ℕ). drop i s) e

  pub rest_at16 : (k n : ℕ) → suc at + k ≡ n → at16 rest k ≡ at16 s n
  unfolding at16
  rest_at16 k n e =
      let f : suc at + (k + 1) ≡ n + 1 = omega arith in
      rw (get_or-drop (suc at) s k 0, get_or-drop (suc at) s (k + 1) 0, e, f)

  pub rest_part : (k m n : ℕ) → suc at + k ≡ m → part rest k n ≡ part s m n
  unfolding part
  rest_part k m n e = rw (rest_drop k m e)

module _ (p : ℕ) (s : List ℕ) (at : ℕ) where
  pub past : length s ≤ at → ended ≡ handed_at p s at
  unfolding handed_at handed_from
  past h = rw (drop_of_length-le s h)

  module _ (h : at < length s) where
    abbrev behind : List ℕ
    behind = rest s at h

    found_is : (c : ℕ) → get_or s at 0 ≡ c → handed_at p s at ≡ found_at (length s) at (shaped (shape p c) behind)
    unfolding handed_at handed_from
    found_is c e = rw (drop-cons s at 0 h, e)

    known_is : (c : ℕ) → get_or s at 0 ≡ c → has_code p c ≡ true → handed_at p s at ≡ found_at (length s) at (shaped (shape_of c) behind)
    known_is c e has = rw (found_is c e, shape_has p c has)

    -- an operation of w octets after its code, which are there
    whole_found : (c w : ℕ) (f : operation.Op) (o : Op) (next : ℕ) → get_or s at 0 ≡ c → has_code p c ≡ true → shaped (shape_of c) behind ≡ whole w behind f
        → at + 1 + w ≤ length s → next ≡ at + 1 + w → o ≡ op_at at f → handed o next ≡ handed_at p s at
    unfolding found_at
    whole_found c w f o next e has sh k n eo =
        rw (known_is c e has, sh, whole_there w behind f (omega (arith, rest_length s at h)))
        (ap₂ handed eo (omega (arith, n, rest_length s at h, length-drop w behind)))

    pub capabilities_found : get_or s at 0 ≡ 1 → handed Capabilities (at + 1) ≡ handed_at p s at
    unfolding found_at op_at shape_of shaped
    capabilities_found e = rw (known_is 1 e (low_code p 1 (omega arith))) (ap (handed Capabilities) (omega (arith, rest_length s at h)))

    pub name_cut : (get_or s at 0 ≡ 1 → ⊥) → length s - at < 3 → refused (in_message at) ≡ handed_at p s at
    unfolding found_at
    name_cut e k = rw (found_is _ refl, shape_cut p _ e behind (omega (arith, rest_length s at h)))

    -- an operation with a name and nothing else
    module _ (n : ℕ) (o : Op) (k : 3 ≤ length s - at) (en : n ≡ at16 s (at + 1)) where
      named_is : (f : ℕ → operation.Op) → shaped (named f) behind ≡ whole 2 behind (f n)
      unfolding shaped
      named_is f = rw (rest_at16 s at h 0 (at + 1) (omega arith), ← en)

      pub read_found : get_or s at 0 ≡ 2 → o ≡ Read n → handed o (at + 3) ≡ handed_at p s at
      unfolding op_at shape_of
      read_found e eo = whole_found 2 2 (read n) o (at + 3) e (low_code p 2 (omega arith)) (named_is read) (omega arith) (omega arith) eo

      pub subscribe_found : get_or s at 0 ≡ 4 → o ≡ Subscribe n → handed o (at + 3) ≡ handed_at p s at
      unfolding op_at shape_of
      subscribe_found e eo = whole_found 4 2 (subscribe n) o (at + 3) e (low_code p 4 (omega arith)) (named_is subscribe) (omega arith) (omega arith) eo

      pub unsubscribe_found : get_or s at 0 ≡ 5 → o ≡ Unsubscribe n → handed o (at + 3) ≡ handed_at p s at
      unfolding op_at shape_of
      unsubscribe_found e eo = whole_found 5 2 (unsubscribe n) o (at + 3) e (low_code p 5 (omega arith)) (named_is unsubscribe) (omega arith) (omega arith) eo

    -- an operation with a name and a value, of which the length or the value is cut short
    value_cut : (NoValue (get_or s at 0) → ⊥) → length s - at < 5 + at16 s (at + 3) → refused (in_message at) ≡ handed_at p s at
    unfolding found_at
    value_cut n k = rw (found_is _ refl, shape-short p _ n behind (omega (arith, rest_length s at h, rest_at16 s at h 2 (at + 3) (omega arith))))

    pub length-short : (NoValue (get_or s at 0) → ⊥) → length s - at < 5 → refused (in_message at) ≡ handed_at p s at
    length-short n k = value_cut n (omega arith)

    pub value-short : (size : ℕ) → (NoValue (get_or s at 0) → ⊥) → size ≡ at16 s (at + 3) → length s - at < 5 + size → refused (in_message at) ≡ handed_at p s at
    value-short size n z k = value_cut n (omega arith)

    -- one that is there
    module _ (n from size : ℕ) (o : Op) (ef : from ≡ at + 5) (en : n ≡ at16 s (at + 1)) (z : size ≡ at16 s (at + 3)) (l : 5 + size ≤ length s - at)
        (has : has_code p (get_or s at 0) ≡ true) where
      valued_is : (f : ℕ → List ℕ → operation.Op) → shaped (valued f) behind ≡ whole (4 + size) behind (f n (part behind 4 size))
      unfolding shaped
      valued_is f = rw (rest_at16 s at h 0 (at + 1) (omega arith), rest_at16 s at h 2 (at + 3) (omega arith), ← en, ← z)

      -- where it is found by its code, and tells the value by its place
      valued_found : (c : ℕ) (f : ℕ → List ℕ → operation.Op) (g : NamedValue → Op) → get_or s at 0 ≡ c → shape_of c ≡ valued f
          → op_at at (f n (part behind 4 size)) ≡ g (value_at at n (part behind 4 size)) → o ≡ g (record { name = n; from = from; size = size }) → handed o (from + size) ≡ handed_at p s at
      valued_found c f g e sh there eo =
          let long : length (part behind 4 size) ≡ size = length_part behind 4 size (omega (arith, rest_length s at h)) in
          whole_found c (4 + size) (f n (part behind 4 size)) o (from + size) e (ap (has_code p) (sym e) ∙ has)
          (ap (λ (x : Shape). shaped x behind) sh ∙ valued_is f) (omega arith) (omega arith)
          (eo ∙ ap₂ (λ (i k : ℕ). g (record { name = n; from = i; size = k })) ef (sym long) ∙ sym there)

      pub set_found : get_or s at 0 ≡ 3 → o ≡ Set (record { name = n; from = from; size = size }) → handed o (from + size) ≡ handed_at p s at
      unfolding op_at shape_of
      set_found e eo = valued_found 3 set Set e refl refl eo

      pub selective_read_found : get_or s at 0 ≡ 6 → o ≡ SelectiveRead (record { name = n; from = from; size = size }) → handed o (from + size) ≡ handed_at p s at
      unfolding op_at shape_of
      selective_read_found e eo = valued_found 6 selective_read SelectiveRead e refl refl eo

      pub selective_subscribe_found : get_or s at 0 ≡ 7 → o ≡ SelectiveSubscribe (record { name = n; from = from; size = size }) → handed o (from + size) ≡ handed_at p s at
      unfolding op_at shape_of
      selective_subscribe_found e eo = valued_found 7 selective_subscribe SelectiveSubscribe e refl refl eo

      pub selective_unsubscribe_found : get_or s at 0 ≡ 8 → o ≡ SelectiveUnsubscribe (record { name = n; from = from; size = size }) → handed o (from + size) ≡ handed_at p s at
      unfolding op_at shape_of
      selective_unsubscribe_found e eo = valued_found 8 selective_unsubscribe SelectiveUnsubscribe e refl refl eo

      pub delete_entry_found : get_or s at 0 ≡ 9 → o ≡ DeleteEntry (record { name = n; from = from; size = size }) → handed o (from + size) ≡ handed_at p s at
      unfolding op_at shape_of
      delete_entry_found e eo = valued_found 9 delete_entry DeleteEntry e refl refl eo

    -- a code that the profile has not, and one that none has
    pub missing_found : has_code p (get_or s at 0) ≡ false → refused (in_message at) ≡ handed_at p s at
    unfolding found_at shaped
    missing_found e = rw (found_is _ refl, code_missing p _ e)

    pub other_found : has_code p (get_or s at 0) ≡ true → (NoValue (get_or s at 0) → ⊥) → (get_or s at 0 ≡ 3 → ⊥) → (get_or s at 0 ≡ 6 → ⊥) → (get_or s at 0 ≡ 7 → ⊥)
        → (get_or s at 0 ≡ 8 → ⊥) → (get_or s at 0 ≡ 9 → ⊥) → refused (in_message at) ≡ handed_at p s at
    unfolding found_at shaped
    other_found has n a b d e f = rw (known_is _ refl has, other_code _ n a b d e f)
