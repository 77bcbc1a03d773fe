-- One turn of a loop over the operations of a list: what is parsed and what is broken from a place on, by what the place hands out.
use Prim.Native.Nat.{ℕ, ◌+◌, ◌≤◌, ◌<◌}
use native.Mathlib.Omega.{arith}
use mathlib.Core.Path.{◌≡◌, refl, sym, ap, ◌∙◌}
use mathlib.Core.Bool.{Bool, true, false, cond, false≢true}
use mathlib.Core.List.{List, [], ◌∷◌}
use mathlib.Core.Option.{Option, none, some}
use Rattle.std.specs.Prelude.{Some, None, Result, Ok, Err, is_ok, ⊤}
use lib.ListN.{length, drop, length-drop}
use Rattle.meaning.specs.Operation.{Next, bad, got, shape, shaped, follow, more, parse, is_some, or_none, broken, in_message, break_of}
use Rattle.meaning.specs.Operation as operation
use Rattle.meaning.specs.Profile.{is_release16, has_code}
use Rattle.meaning.proofs.Profiles.{every_code, no_code, shape_none, shape_has}
use Rattle.meaning.proofs.Encode.{first_of, parse-step, parse-nil}
use Rattle.meaning.proofs.Breaks.{broken-got, broken-bad}
use Rattle.operation.specs.declared.Op.{Op}
use Rattle.operation.specs.declared.Op.TheVariants.{Capabilities, Read, Set, Subscribe, Unsubscribe, SelectiveRead, SelectiveSubscribe, SelectiveUnsubscribe, DeleteEntry}
use Rattle.operation.specs.declared.Malformed.{Malformed}
use Rattle.operation.specs.Handing.{op_of, name_of, from_of, size_of, Inside, Handed, handed, refused, ended, wholeness}

-- ---- what a turn begins with

-- what octets hand out: the end where there are none, else what their first operation is
pub data Handing : Type 0 where
  no_more : Handing
  found : Next → Handing

unfoldable pub first : ℕ → List ℕ → Handing
first p [] = no_more
first p (c ∷ s) = found (shaped (shape p c) s)

unfoldable pub handing : List ℕ → Handed → Handing
handing s (Ok (Some n)) = found (got (op_of s n.op) (drop n.behind s))
handing s (Ok None) = no_more
handing s (Err e) = found bad

-- the place after an operation lies ahead, and within n octets; the position of one that is malformed is that of the place in the message
abbrev pub Reached : ℕ → ℕ → Handed → Type 0
Reached n at (Ok (Some o)) = (at < o.behind) × (o.behind ≤ n) × Inside n o.op
Reached n at (Ok None) = Unit {0}
Reached n at (Err e) = e.position ≡ in_message at

-- r is what the list s hands out at a place, wherever a value lies
abbrev pub HandsOut : ℕ → List ℕ → ℕ → Handed → Type 0
HandsOut p s at r = (handing s r ≡ first p (drop at s)) × Reached (length s) at r

-- no operation is handed out
abbrev pub NoOperation : Handed → Type 0
NoOperation h = (o : Op) (next : ℕ) → h ≡ handed o next → ⊥

-- ---- what is parsed

-- what is parsed where the first operation is known
unfoldable parsed : ℕ → Handing → Option (List operation.Op)
parsed p no_more = some []
parsed p (found nx) = follow nx (parse p)

parse-first : (p : ℕ) (s : List ℕ) → parse p s ≡ parsed p (first p s)
unfolding parsed first
parse-first p [] = parse-nil p
parse-first p (c ∷ s) = parse-step p c s

parse-handing : (p : ℕ) (s : List ℕ) (at : ℕ) (r : Handed) → handing s r ≡ first p (drop at s) → parse p (drop at s) ≡ parsed p (handing s r)
parse-handing p s at r e = parse-first p (drop at s) ∙ ap (parsed p) (sym e)

-- an operation: the rest is parsed from the place after it
pub turn : (p : ℕ) (s : List ℕ) (at next : ℕ) (o : Op) → handing s (handed o next) ≡ first p (drop at s)
    → parse p (drop at s) ≡ more (op_of s o) (parse p (drop next s))
unfolding parsed handing follow
turn p s at next o e = parse-handing p s at (handed o next) e

pub turn-malformed : (p : ℕ) (s : List ℕ) (at q : ℕ) → handing s (refused q) ≡ first p (drop at s) → parse p (drop at s) ≡ none
unfolding parsed handing follow
turn-malformed p s at q e = parse-handing p s at (refused q) e

pub turn_end : (p : ℕ) (s : List ℕ) (at : ℕ) → handing s ended ≡ first p (drop at s) → parse p (drop at s) ≡ some []
unfolding parsed handing
turn_end p s at e = parse-handing p s at ended e

more_some : (o : operation.Op) (q : Option (List operation.Op)) → is_some (more o q) ≡ is_some q
unfolding more
more_some o none = refl
more_some o (some os) = refl

more_ops : (o : operation.Op) (q : Option (List operation.Op)) → is_some (more o q) ≡ true → or_none (more o q) ≡ o ∷ or_none q
unfolding more
more_ops o none e = absurd (false≢true e)
more_ops o (some os) e = refl

module _ (p : ℕ) (s : List ℕ) (at next : ℕ) (o : Op) (e : handing s (handed o next) ≡ first p (drop at s)) where
  -- the octets from here are whole where those after the operation are
  pub turn_some : is_some (parse p (drop at s)) ≡ is_some (parse p (drop next s))
  turn_some = ap is_some (turn p s at next o e) ∙ more_some (op_of s o) (parse p (drop next s))

  pub turn-whole : is_some (parse p (drop at s)) ≡ true → is_some (parse p (drop next s)) ≡ true
  turn-whole w = sym turn_some ∙ w

  -- the operations from here are this one and those after it
  pub turn_ops : is_some (parse p (drop at s)) ≡ true → or_none (parse p (drop at s)) ≡ op_of s o ∷ or_none (parse p (drop next s))
  turn_ops w =
      ap or_none (turn p s at next o e)
      ∙ more_ops (op_of s o) (parse p (drop next s)) (sym (ap is_some (turn p s at next o e)) ∙ w)

-- ---- what is broken

-- the first operation of the octets from here, by what they hand out
next_of : Handing → Next
next_of no_more = bad
next_of (found nx) = nx

first_known : (p : ℕ) (s : List ℕ) (h : Handing) → h ≡ first p s → first_of p s ≡ next_of h
unfolding first next_of
first_known p [] h e = ap next_of (sym e)
first_known p (c ∷ s) h e = ap next_of (sym e)

-- an operation: from here on and from the place after it the same is broken
pub turn-broken : (p : ℕ) (s : List ℕ) (at next : ℕ) (o : Op) → handing s (handed o next) ≡ first p (drop at s) → broken p (drop at s) ≡ broken p (drop next s)
unfolding handing next_of
turn-broken p s at next o e = broken-got p (drop at s) (op_of s o) (drop next s) (first_known p (drop at s) (handing s (handed o next)) e)

-- one that is malformed or cut short: all from here on
pub turn_breaks : (p : ℕ) (s : List ℕ) (at q : ℕ) → handing s (refused q) ≡ first p (drop at s) → broken p (drop at s) ≡ drop at s
unfolding handing next_of
turn_breaks p s at q e = broken-bad p (drop at s) (first_known p (drop at s) (handing s (refused q)) e)

-- ---- whether a list is whole

-- a list that is whole, and one that is refused with the position q
abbrev pub is_whole : Result ⊤ Malformed
is_whole = Ok tt

abbrev pub refused_whole : ℕ → Result ⊤ Malformed
refused_whole q = Err (record { position = q })

position_in : Result ⊤ Malformed → ℕ
position_in (Ok u) = 0
position_in (Err e) = e.position

pub is_whole_lem : (p : ℕ) (s : List ℕ) → is_some (parse p s) ≡ true → is_whole ≡ wholeness p s
unfolding wholeness
is_whole_lem p s w = rw w

pub breaks_at : (p : ℕ) (s : List ℕ) (at q : ℕ) → at ≤ length s → is_some (parse p s) ≡ false → broken p s ≡ drop at s → q ≡ in_message at → refused_whole q ≡ wholeness p s
unfolding wholeness break_of
breaks_at p s at q h w e k = rw (w, e, k) (ap refused_whole (omega (arith, length-drop at s, h)))

pub whole_some : (p : ℕ) (s : List ℕ) → is_whole ≡ wholeness p s → is_some (parse p s) ≡ true
unfolding wholeness
whole_some p s e = go (is_some (parse p s)) e
  where
    go : (b : Bool) → is_whole ≡ cond b is_whole (refused_whole (break_of p s)) → b ≡ true
    go true f = refl
    go false f = absurd (false≢true (sym (ap is_ok f)))

pub broken_none : (p : ℕ) (s : List ℕ) (e : Malformed) → refused_whole e.position ≡ wholeness p s → (is_some (parse p s) ≡ false) × (e.position ≡ break_of p s)
unfolding wholeness position_in
broken_none p s e q = go (is_some (parse p s)) q
  where
    go : (b : Bool) → refused_whole e.position ≡ cond b is_whole (refused_whole (break_of p s)) → (b ≡ false) × (e.position ≡ break_of p s)
    go true f = absurd (false≢true (ap is_ok f))
    go false f = (refl, ap position_in f)

-- ---- the fields of an operation that lies within a list

pub inside-name : (n : ℕ) (o : Op) → Inside n o → name_of o < 65536
unfolding name_of
inside-name n Capabilities h = omega arith
inside-name n (Read name) h = h
inside-name n (Set v) h = h.0
inside-name n (Subscribe name) h = h
inside-name n (Unsubscribe name) h = h
inside-name n (SelectiveRead v) h = h.0
inside-name n (SelectiveSubscribe v) h = h.0
inside-name n (SelectiveUnsubscribe v) h = h.0
inside-name n (DeleteEntry v) h = h.0

pub inside-value : (n : ℕ) (o : Op) → Inside n o → from_of o + size_of o ≤ n
unfolding from_of size_of
inside-value n Capabilities h = omega arith
inside-value n (Read name) h = omega arith
inside-value n (Set v) h = h.1
inside-value n (Subscribe name) h = omega arith
inside-value n (Unsubscribe name) h = omega arith
inside-value n (SelectiveRead v) h = omega arith
inside-value n (SelectiveSubscribe v) h = omega arith
inside-value n (SelectiveUnsubscribe v) h = omega arith
inside-value n (DeleteEntry v) h = omega arith

pub inside-within : (n k : ℕ) (o : Op) → n ≤ k → Inside n o → Inside k o
inside-within n k Capabilities l h = h
inside-within n k (Read name) l h = h
inside-within n k (Set v) l h = (h.0, omega (arith, h.1, l))
inside-within n k (Subscribe name) l h = h
inside-within n k (Unsubscribe name) l h = h
inside-within n k (SelectiveRead v) l h = (h.0, omega (arith, h.1, l))
inside-within n k (SelectiveSubscribe v) l h = (h.0, omega (arith, h.1, l))
inside-within n k (SelectiveUnsubscribe v) l h = (h.0, omega (arith, h.1, l))
inside-within n k (DeleteEntry v) l h = (h.0, omega (arith, h.1, l))

-- ---- a list that is whole

-- every code in it is one that its profile has, so a profile that has every code hands out the same
whole-first : (p q : ℕ) (s : List ℕ) → is_release16 q ≡ false → is_some (parse p s) ≡ true → first q s ≡ first p s
unfolding first
whole-first p q [] h w = refl
whole-first p q (c ∷ s) h w = go (has_code p c) refl
  where
    go : (b : Bool) → has_code p c ≡ b → found (shaped (shape q c) s) ≡ found (shaped (shape p c) s)
    go true e = rw (shape_has q c (every_code q c h), shape_has p c e)
    go false e =
        let n = no_code p c e in
        let none-parsed : parse p (c ∷ s) ≡ none = parse-step p c s ∙ (rw (shape_none p c n.0 n.1) (unfold shaped follow in refl)) in
        absurd (false≢true (rw none-parsed at w))

pub hands_whole : (p q : ℕ) (s : List ℕ) (at : ℕ) (r : Handed) → is_release16 q ≡ false → is_some (parse p (drop at s)) ≡ true → HandsOut q s at r → HandsOut p s at r
hands_whole p q s at r h w e = (e.0 ∙ whole-first p q (drop at s) h w, e.1)
