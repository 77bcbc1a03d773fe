-- What is skipped changes nothing that is read: unknown elements, known ones behind one as high or higher, and octets behind a notification's
-- contents. And which elements are read, said of the list of elements alone.
use Prim.Native.Nat.{ℕ, suc, ◌+◌, ◌≤◌, ◌<◌}
use native.Mathlib.Decide.{ℕ_discrete, dec_le}
use native.Mathlib.Omega.{arith}
use mathlib.Core.Path.{◌≡◌, refl, sym, ap, ◌∙◌}
use mathlib.Core.Logic.{◌⊎◌, inl, inr}
use mathlib.Core.Bool.{Bool, true, false, ◌&&◌, cond, false≢true}
use mathlib.Core.Option.{Option, none, some}
use mathlib.Core.List.{List, [], ◌∷◌, ◌++◌, append_assoc, append-nil}
use lib.ListN.{length, length-append}
use lib.Dec.{eqb, leb, ltb}
use borrow.Author.Tests.{leb-true, ltb-true, ltb-false, le-leb, lt-leb, lt-ltb, le-ltb, eq-eqb, ne_eqb}
use Rattle.meaning.specs.Octets.{be16, flat}
use Rattle.meaning.specs.Capture.{then_read, Elements, is_read, keeping, elements_of, of_elements, in_reply, in_notification, status_in, is_reply, is_notification, contained, capture_checks, capture}
use Rattle.meaning.proofs.Lists.{Each}
use Rattle.meaning.proofs.Tests.{and_left, and_right}
use Rattle.meaning.proofs.Fronts.{sized_two}
use Rattle.meaning.proofs.Walked.{Element, spelling, RightSize, Known, walk_from, walk-nil, walk-element, not_read, unknown_low, unknown_high, not_above}

-- ---- a message of one type, by what stands behind its type

pub capture-reply : (a b : List ℕ) → length a < 4096 → length b < 4096 → in_reply a ≡ in_reply b → capture (2 ∷ a) ≡ capture (2 ∷ b)
unfolding capture capture_checks contained is_reply is_notification
capture-reply a b h k e = rw (le-leb 1 (suc (length a)) (omega arith), le-leb (suc (length a)) 4096 (omega arith), le-leb 1 (suc (length b)) (omega arith), le-leb (suc (length b)) 4096 (omega arith), e)

pub capture-notification : (a b : List ℕ) → length a < 4096 → length b < 4096 → in_notification a ≡ in_notification b → capture (3 ∷ a) ≡ capture (3 ∷ b)
unfolding capture capture_checks contained is_reply is_notification
capture-notification a b h k e = rw (le-leb 1 (suc (length a)) (omega arith), le-leb (suc (length a)) 4096 (omega arith), le-leb 1 (suc (length b)) (omega arith), le-leb (suc (length b)) 4096 (omega arith), e)

-- ---- elements one after another

abbrev pub kept_of : List ℕ → List ℕ → Option (List ℕ)
kept_of c behind = some c

-- what is kept of some elements, behind those of k
unfoldable pub kept_all : Elements (Option (List ℕ)) → List Element → Elements (Option (List ℕ))
kept_all k [] = k
kept_all k (e ∷ es) = kept_all (keeping k e.id (some e.contents)) es

abbrev pub unread : Elements (Option (List ℕ))
unread = record { highest = 0; names = none; status = none; result = none }

pub walk-all : (k : Elements (Option (List ℕ))) (es : List Element) (t : List ℕ) → Each RightSize es → walk_from kept_of k (flat spelling es ++ t) ≡ walk_from kept_of (kept_all k es) t
unfolding kept_all flat
walk-all k [] t h = refl
walk-all k (e ∷ es) t h =
    ap (walk_from kept_of k) (append_assoc (spelling e) (flat spelling es) t)
    ∙ walk-element kept_of k e (flat spelling es ++ t) h.0
    ∙ walk-all (keeping k e.id (some e.contents)) es t h.1

-- ---- the highest that was read

module _ (k : Elements (Option (List ℕ))) (id : ℕ) (c : Option (List ℕ)) where
  pub highest_grows : k.highest ≤ (keeping k id c).highest
  unfolding keeping is_read
  highest_grows = go (is_read k.highest id) refl
    where
      go : (b : Bool) → is_read k.highest id ≡ b → k.highest ≤ (keeping k id c).highest
      go true e = rw e (omega (arith, ltb-true k.highest id (and_left (ltb k.highest id) _ e)))
      go false e = rw e (omega arith)

  pub highest_known : Known id → id ≤ (keeping k id c).highest
  unfolding keeping is_read
  highest_known h = go (ltb k.highest id) refl
    where
      go : (b : Bool) → ltb k.highest id ≡ b → id ≤ (keeping k id c).highest
      go true e = rw (e, le-leb 0x70 id h.0, le-leb id 0x72 h.1) (omega arith)
      go false e = rw e (omega (arith, ltb-false k.highest id e))

all_grows : (k : Elements (Option (List ℕ))) (es : List Element) → k.highest ≤ (kept_all k es).highest
unfolding kept_all
all_grows k [] = omega arith
all_grows k (e ∷ es) = omega (arith, highest_grows k e.id (some e.contents), all_grows (keeping k e.id (some e.contents)) es)

all_known : (k : Elements (Option (List ℕ))) (as' bs : List Element) (e : Element) → Known e.id → e.id ≤ (kept_all k (as' ++ (e ∷ bs))).highest
unfolding kept_all
all_known k [] bs e h =
    omega (arith, highest_known k e.id (some e.contents) h, all_grows (keeping k e.id (some e.contents)) bs)
all_known k (a ∷ as') bs e h = all_known (keeping k a.id (some a.contents)) as' bs e h

-- ---- what is skipped

-- an element that is not read behind the elements es, put before any octets t
module _ (es : List Element) (u : Element) (t : List ℕ) (hs : Each RightSize es) (h : RightSize u) (short : length (flat spelling es ++ (spelling u ++ t)) < 4096) where
  same_elements : is_read (kept_all unread es).highest u.id ≡ false → in_reply (flat spelling es ++ (spelling u ++ t)) ≡ in_reply (flat spelling es ++ t)
  unfolding in_reply elements_of
  same_elements e =
      ap (λ (o : Option (Elements (Option (List ℕ)))). then_read o of_elements)
      (walk-all unread es (spelling u ++ t) hs
      ∙ walk-element kept_of (kept_all unread es) u t h
      ∙ ap (λ (k : Elements (Option (List ℕ))). walk_from kept_of k t) (not_read (kept_all unread es) u.id (some u.contents) e)
      ∙ sym (walk-all unread es t hs))

  skipped : is_read (kept_all unread es).highest u.id ≡ false → capture (2 ∷ (flat spelling es ++ (spelling u ++ t))) ≡ capture (2 ∷ (flat spelling es ++ t))
  skipped e =
      capture-reply (flat spelling es ++ (spelling u ++ t)) (flat spelling es ++ t) short
      (omega (arith, short, length-append (flat spelling es) (spelling u ++ t), length-append (spelling u) t, length-append (flat spelling es) t))
      (same_elements e)

  pub unknown_skipped : (u.id < 0x70) ⊎ (0x72 < u.id) → capture (2 ∷ (flat spelling es ++ (spelling u ++ t))) ≡ capture (2 ∷ (flat spelling es ++ t))
  unknown_skipped (inl l) = skipped (unknown_low (kept_all unread es).highest u.id l)
  unknown_skipped (inr l) = skipped (unknown_high (kept_all unread es).highest u.id l)

-- behind a known element e that is as high or higher, with any elements before and behind that
pub known_skipped : (as' bs : List Element) (e u : Element) (t : List ℕ) → Each RightSize (as' ++ (e ∷ bs)) → RightSize u → length (flat spelling (as' ++ (e ∷ bs)) ++ (spelling u ++ t)) < 4096
    → Known e.id → u.id ≤ e.id
    → capture (2 ∷ (flat spelling (as' ++ (e ∷ bs)) ++ (spelling u ++ t))) ≡ capture (2 ∷ (flat spelling (as' ++ (e ∷ bs)) ++ t))
known_skipped as' bs e u t hs h short k l =
    skipped (as' ++ (e ∷ bs)) u t hs h short
    (not_above (kept_all unread (as' ++ (e ∷ bs))).highest u.id (omega (arith, l, all_known unread as' bs e k)))

-- behind a notification's contents

pub contents_alone : (c t : List ℕ) → length c < 65536 → in_notification (be16 (length c) ++ (c ++ t)) ≡ status_in c
unfolding in_notification then_read
contents_alone c t h = rw (sized_two c t h)

pub behind_skipped : (c t : List ℕ) → length (be16 (length c) ++ (c ++ t)) < 4096 → capture (3 ∷ (be16 (length c) ++ (c ++ t))) ≡ capture (3 ∷ (be16 (length c) ++ c))
behind_skipped c t short =
    let l : length (be16 (length c) ++ (c ++ t)) ≡ 2 + (length c + length t) = unfold be16 in omega (arith, length-append c t) in
    let b : length (be16 (length c) ++ c) ≡ 2 + length c = unfold be16 in omega arith in
    capture-notification (be16 (length c) ++ (c ++ t)) (be16 (length c) ++ c) short (omega arith)
    (contents_alone c t (omega arith) ∙ sym (ap (λ (v : List ℕ). in_notification (be16 (length c) ++ v)) (sym (append-nil c)) ∙ contents_alone c [] (omega arith)))

-- ---- which elements are read, of a list of elements

-- the contents of the first of this identifier, unless a higher known one stands before it
unfoldable pub first_unless_higher : ℕ → List Element → Option (List ℕ)
first_unless_higher id [] = none
first_unless_higher id (e ∷ es) =
    cond (eqb e.id id) (some e.contents)
    (cond (ltb id e.id && leb e.id 0x72) none (first_unless_higher id es))

first-same : (id : ℕ) (e : Element) (es : List Element) → e.id ≡ id → first_unless_higher id (e ∷ es) ≡ some e.contents
unfolding first_unless_higher
first-same id e es p = rw (eq-eqb e.id id p)

first_higher : (id : ℕ) (e : Element) (es : List Element) → id < e.id → e.id ≤ 0x72 → first_unless_higher id (e ∷ es) ≡ none
unfolding first_unless_higher
first_higher id e es p q = rw (ne_eqb e.id id (λ h. omega (arith, h, p)), lt-ltb id e.id p, le-leb e.id 0x72 q)

first_other : (id : ℕ) (e : Element) (es : List Element) → (e.id < id) ⊎ (0x72 < e.id) → id ≤ 0x72 → first_unless_higher id (e ∷ es) ≡ first_unless_higher id es
unfolding first_unless_higher
first_other id e es (inl p) h = rw (ne_eqb e.id id (λ q. omega (arith, q, p)), le-ltb id e.id (omega arith))
first_other id e es (inr p) h = rw (ne_eqb e.id id (λ q. omega (arith, q, p)), lt-ltb id e.id (omega arith), lt-leb e.id 0x72 p)

read_test : (k : Elements (Option (List ℕ))) (e : Element) → is_read k.highest e.id ≡ true → (ltb k.highest e.id && (leb 0x70 e.id && leb e.id 0x72)) ≡ true
unfolding is_read
read_test k e r = r

module _ (id : ℕ) (known : Known id) (get : Elements (Option (List ℕ)) → Option (List ℕ))
    (gets : (k : Elements (Option (List ℕ))) (i : ℕ) (c : Option (List ℕ)) → is_read k.highest i ≡ true → get (keeping k i c) ≡ cond (eqb i id) c (get k)) where
  -- what is kept for the identifier: what was, if one as high has been read, else what the list says
  abbrev Settled : Elements (Option (List ℕ)) → List Element → Type 0
  Settled k es = get (kept_all k es) ≡ cond (ltb k.highest id) (first_unless_higher id es) (get k)

  -- what stands above the highest that was read is not there yet
  abbrev Vacant : Elements (Option (List ℕ)) → Type 0
  Vacant k = k.highest < id → get k ≡ none

  nothing_yet : (k : Elements (Option (List ℕ))) → Vacant k → get k ≡ cond (ltb k.highest id) none (get k)
  nothing_yet k vacant = go (ltb k.highest id) refl
    where
      go : (b : Bool) → ltb k.highest id ≡ b → get k ≡ cond b none (get k)
      go true q = vacant (ltb-true k.highest id q)
      go false q = refl

  module _ (k : Elements (Option (List ℕ))) (e : Element) (es : List Element) (vacant : Vacant k) where
    abbrev next : Elements (Option (List ℕ))
    next = keeping k e.id (some e.contents)

    -- an element that is read
    module _ (above : k.highest < e.id) (low : 0x70 ≤ e.id) (high : e.id ≤ 0x72) where
      is_read_lem : is_read k.highest e.id ≡ true
      unfolding is_read
      is_read_lem = rw (lt-ltb k.highest e.id above, le-leb 0x70 e.id low, le-leb e.id 0x72 high)

      highest_is : next.highest ≡ e.id
      unfolding keeping
      highest_is = rw is_read_lem

      kept_is : get next ≡ cond (eqb e.id id) (some e.contents) (get k)
      kept_is = gets k e.id (some e.contents) is_read_lem

      read_vacant : Vacant next
      read_vacant l =
          let m : e.id < id = omega (arith, l, highest_is) in
          kept_is ∙ rw (ne_eqb e.id id (λ q. omega (arith, q, m)), vacant (omega (arith, above, m)))

      read_settled : Settled next es → Settled k (e ∷ es)
      unfolding kept_all
      read_settled ih = go (ℕ_discrete e.id id) (dec_le e.id id)
        where
          go : Dec (e.id ≡ id) → Dec (e.id ≤ id) → Settled k (e ∷ es)
          go (yes p) l =
              ih ∙ rw (kept_is, highest_is, le-ltb e.id id (omega arith), eq-eqb e.id id p, lt-ltb k.highest id (omega (arith, above, p)), first-same id e es p)
          go (no p) (yes l) =
              let m : e.id < id = omega (arith, l, p) in
              ih ∙ rw (highest_is, lt-ltb e.id id m, lt-ltb k.highest id (omega (arith, above, m)), first_other id e es (inl m) known.1)
          go (no p) (no l) =
              let m : id < e.id = omega (arith, l) in
              ih ∙ rw (kept_is, highest_is, le-ltb e.id id (omega arith), ne_eqb e.id id p, first_higher id e es m high) (nothing_yet k vacant)

    -- one that is not
    module _ (unread' : is_read k.highest e.id ≡ false) where
      -- above what was read such an element is neither of this identifier nor a higher known one
      passed_over : k.highest < id → (e.id < id) ⊎ (0x72 < e.id)
      passed_over h = go (dec_le (suc e.id) id) (dec_le e.id 0x72)
        where
          go : Dec (suc e.id ≤ id) → Dec (e.id ≤ 0x72) → (e.id < id) ⊎ (0x72 < e.id)
          go (yes l) m = inl (omega arith)
          go (no l) (no m) = inr (omega arith)
          go (no l) (yes m) = absurd (false≢true (sym unread' ∙ is_read_lem (omega (arith, h, l)) (omega (arith, l, known.0)) m))

      skipped_settled : Settled k es → Settled k (e ∷ es)
      unfolding kept_all
      skipped_settled ih = rw (not_read k e.id (some e.contents) unread') (ih ∙ go (ltb k.highest id) refl)
        where
          go : (b : Bool) → ltb k.highest id ≡ b → cond b (first_unless_higher id es) (get k) ≡ cond b (first_unless_higher id (e ∷ es)) (get k)
          go true q = sym (first_other id e es (passed_over (ltb-true k.highest id q)) known.1)
          go false q = refl

    -- either way, from what is settled behind it
    one_settled : ((k' : Elements (Option (List ℕ))) → Vacant k' → Settled k' es) → Settled k (e ∷ es)
    one_settled ih = go (is_read k.highest e.id) refl
      where
        go : (b : Bool) → is_read k.highest e.id ≡ b → Settled k (e ∷ es)
        go true r =
            let a : k.highest < e.id = ltb-true _ _ (and_left (ltb k.highest e.id) _ (read_test k e r)) in
            let b = and_right (ltb k.highest e.id) _ (read_test k e r) in
            let l : 0x70 ≤ e.id = leb-true _ _ (and_left (leb 0x70 e.id) _ b) in
            let h : e.id ≤ 0x72 = leb-true _ _ (and_right (leb 0x70 e.id) _ b) in
            read_settled a l h (ih next (read_vacant a l h))
        go false r = skipped_settled r (ih k vacant)

  settled : (k : Elements (Option (List ℕ))) (es : List Element) → Vacant k → Settled k es
  unfolding kept_all first_unless_higher
  settled k [] vacant = nothing_yet k vacant
  settled k (e ∷ es) vacant = one_settled k e es vacant (λ k' v. settled k' es v)

-- of each of the three the first is read, unless a higher known one stands before it
pub elements_read : (es : List Element) → Each RightSize es
    → elements_of kept_of none (flat spelling es) ≡ some (kept_all unread es)
unfolding elements_of
elements_read es h =
    ap (walk_from kept_of unread) (sym (append-nil (flat spelling es))) ∙ walk-all unread es [] h ∙ walk-nil kept_of (kept_all unread es)

module _ (es : List Element) where
  pub names-first : (kept_all unread es).names ≡ first_unless_higher 0x70 es
  unfolding keeping
  names-first = settled 0x70 (omega arith, omega arith) (λ k. k.names) (λ k i c r. rw r) unread es (λ h. refl)

  pub status-first : (kept_all unread es).status ≡ first_unless_higher 0x71 es
  unfolding keeping
  status-first = settled 0x71 (omega arith, omega arith) (λ k. k.status) (λ k i c r. rw r) unread es (λ h. refl)

  pub result-first : (kept_all unread es).result ≡ first_unless_higher 0x72 es
  unfolding keeping
  result-first = settled 0x72 (omega arith, omega arith) (λ k. k.result) (λ k i c r. rw r) unread es (λ h. refl)
