-- Elements of a reply by their places: what is kept of one, one turn of a walk over them, and that their contents stand in the message.
use Prim.Native.Nat.{ℕ, zero, suc, ◌+◌, ◌≤◌, ◌<◌}
use native.Mathlib.Numerals.{add-one}
use native.Mathlib.Omega.{arith}
use mathlib.Core.Path.{◌≡◌, ◌∙◌}
use mathlib.Core.Bool.{Bool, true, false, ◌&&◌, not, cond}
use mathlib.Core.List.{List, [], ◌∷◌}
use mathlib.Core.Option.{Option, none, some}
use lib.ListN.{length, drop, drop_of_length-le}
use Rattle.std.specs.Prelude.{Option as Returned, Some, None}
use lib.Seq.{drop-cons}
use lib.Dec.{eqb, leb, ltb}
use borrow.Author.Tests.{leb-true, lt-ltb}
use Rattle.meaning.specs.Octets.{octet}
use Rattle.meaning.specs.Capture.{then_read, sized, length_octets, Elements, is_read, keeping, elements_in, elements_of}
use Rattle.meaning.proofs.Tests.{and_left, and_right, not-true}
use Rattle.meaning.proofs.Walked.{walk_from, walk_step, not_above}
use Rattle.contents.specs.declared.Span.{Span}
use Rattle.contents.specs.declared.Contents.{Contents}
use Rattle.contents.specs.Spans.{span, standing, elements_is, kept, of_walk, walked}
use Rattle.contents.proofs.Between.{between, between_end}
use Rattle.contents.proofs.Lengths.{Found, stands}

-- ---- what is kept after a further element: one law for each way in which `keep` returns

abbrev contents : ℕ → Span → Span → Span → Contents
contents h n s r = record { highest = h; names = n; status = s; result = r }

module _ (k : Contents) (id : ℕ) (p : Span) where
  not_read : is_read k.highest id ≡ false → k ≡ kept k id p
  unfolding kept keeping
  not_read e = rw e

  pub keep-below : id ≤ k.highest → k ≡ kept k id p
  keep-below h = not_read (not_above k.highest id h)

  pub keep_unknown : (id ≡ 0x70 → ⊥) → (id ≡ 0x71 → ⊥) → (id ≡ 0x72 → ⊥) → k ≡ kept k id p
  unfolding is_read
  keep_unknown a b c =
      not_read (not-true (is_read k.highest id) (λ e.
      let among = and_right (ltb k.highest id) (leb 0x70 id && leb id 0x72) e in
      let low = leb-true 0x70 id (and_left (leb 0x70 id) (leb id 0x72) among) in
      let high = leb-true id 0x72 (and_right (leb 0x70 id) (leb id 0x72) among) in
      omega arith))

  module _ (h : k.highest < id) where
    pub keep-names : id ≡ 0x70 → contents id p k.status k.result ≡ kept k id p
    unfolding kept keeping is_read
    keep-names e = rw (lt-ltb k.highest id h, e)

    pub keep-status : id ≡ 0x71 → contents id k.names p k.result ≡ kept k id p
    unfolding kept keeping is_read
    keep-status e = rw (lt-ltb k.highest id h, e)

    pub keep-result : id ≡ 0x72 → contents id k.names k.status p ≡ kept k id p
    unfolding kept keeping is_read
    keep-result e = rw (lt-ltb k.highest id h, e)

-- ---- one turn of a walk

-- what there is to read from a place on, with k kept of what stands before it
abbrev pub read_from : List ℕ → Contents → ℕ → Option (Elements Span)
read_from s k at = walk_from (standing (length s)) (elements_is k) (drop at s)

module _ (s : List ℕ) (k : Contents) (at : ℕ) where
  walk_end : length s ≤ at → read_from s k at ≡ some (elements_is k)
  unfolding elements_in
  walk_end h = rw (drop_of_length-le s h)

  module _ (w : ℕ) (h : at < length s) (e : w ≡ length_octets (octet s at)) where
    walk_turn : read_from s k at ≡ then_read (sized w (between s (at + 1) (length s)))
        (λ c. walk_from (standing (length s)) (keeping (elements_is k) (octet s at) (standing (length s) c.0 c.1)) c.1)
    walk_turn = rw (e, drop-cons s at 0, walk_step, between_end, add-one)

    pub walk_cut : Found s (at + 1) (length s) w None → read_from s k at ≡ none
    unfolding then_read
    walk_cut f = walk_turn ∙ rw f

    pub walk_on : (p : Span) (more : Contents) → Found s (at + 1) (length s) w (Some p) → more ≡ kept k (octet s at) p
        → read_from s more p.to ≡ read_from s k at
    unfolding then_read kept
    walk_on p more f m = rw (m, walk_turn, f.0, stands s p (length s) f.2 f.3 (omega arith), between_end s p.to)

-- ---- what a walk comes to, told by what there is to read at its end

module _ (s : List ℕ) (k : Contents) (at : ℕ) (e : read_from s k at ≡ elements_of (standing (length s)) (span 0 0) (drop 1 s)) where
  pub walked_cut : read_from s k at ≡ none → None ≡ walked s
  unfolding walked of_walk
  walked_cut n = rw (← e, n)

  pub walked_all : length s ≤ at → Some k ≡ walked s
  unfolding walked of_walk
  walked_all h = rw (← e, walk_end s k at h)

-- ---- what holds of all that may be kept holds of what is kept

module _ {C : Type 0} (P : C → Type 0) where
  abbrev Each : Elements C → Type 0
  Each k = P k.names × P k.status × P k.result

  abbrev EachRead : Option (Elements C) → Type 0
  EachRead none = Unit {0}
  EachRead (some k) = Each k

  either : (b : Bool) (x y : C) → P x → P y → P (cond b x y)
  either true x y p q = p
  either false x y p q = q

  keeping_each : (k : Elements C) (id : ℕ) (c : C) → Each k → P c → Each (keeping k id c)
  unfolding keeping
  keeping_each k id c h p = go (is_read k.highest id)
    where
      more : Elements C
      more = record {
        highest = id;
        names = cond (eqb id 0x70) c k.names;
        status = cond (eqb id 0x71) c k.status;
        result = cond (eqb id 0x72) c k.result;
      }

      go : (b : Bool) → Each (cond (not b) k more)
      go true = (either (eqb id 0x70) c k.names p h.0, either (eqb id 0x71) c k.status p h.1, either (eqb id 0x72) c k.result p h.2)
      go false = h

  module _ (keep : List ℕ → List ℕ → C) (all : (c behind : List ℕ) → P (keep c behind)) where
    elements_each : (n : ℕ) (k : Elements C) (s : List ℕ) → Each k → EachRead (elements_in keep n k s)
    unfolding elements_in then_read
    elements_each zero k [] h = h
    elements_each zero k (id ∷ s) h = tt
    elements_each (suc n) k [] h = h
    elements_each (suc n) k (id ∷ s) h = go (sized (length_octets id) s) (λ m. elements_each n m)
      where
        go : (o : Option (List ℕ × List ℕ)) → ((m : Elements C) (t : List ℕ) → Each m → EachRead (elements_in keep n m t))
            → EachRead (then_read o (λ e. elements_in keep n (keeping k id (keep e.0 e.1)) e.1))
        go none more = tt
        go (some e) more = more (keeping k id (keep e.0 e.1)) e.1 (keeping_each k id (keep e.0 e.1) h (all e.0 e.1))

-- ---- the contents of elements that are read stand in the message

-- a span within n octets
abbrev pub Inside : ℕ → Span → Type 0
Inside n p = (p.from ≤ p.to) × (p.to ≤ n)

abbrev pub AllInside : ℕ → Returned Contents → Type 0
AllInside n None = Unit {0}
AllInside n (Some k) = Inside n k.names × Inside n k.status × Inside n k.result

walk_inside : (n : ℕ) (o : Option (Elements Span)) → EachRead (Inside n) o → AllInside n (of_walk o)
unfolding of_walk
walk_inside n none h = tt
walk_inside n (some k) h = h

pub walked-inside : (s : List ℕ) (r : Returned Contents) → r ≡ walked s → AllInside (length s) r
unfolding walked elements_of standing
walked-inside s r e =
    rw e
    (walk_inside (length s) _
    (elements_each (Inside (length s)) (standing (length s)) (λ c behind. (omega arith, omega arith)) (length (drop 1 s)) _ (drop 1 s)
    ((omega arith, omega arith), (omega arith, omega arith), (omega arith, omega arith))))
