-- Where the operations of a command break (RULES 15.27, 15.29): whole ones end there and none begins, and no other position has both.
use Prim.Native.Nat.{ℕ, zero, suc, ◌+◌, ◌*◌, ◌-◌, ◌≤◌, ◌<◌}
use native.Mathlib.Omega.{arith}
use native.Mathlib.Decide.{dec_le}
use mathlib.Core.Path.{◌≡◌, refl, sym, ap, ◌∙◌}
use mathlib.Core.Logic.{◌≢◌, ◌⊎◌, inl, inr}
use mathlib.Core.Bool.{Bool, true, false, cond, false≢true}
use mathlib.Core.Option.{Option, none, some}
use mathlib.Core.List.{List, [], ◌∷◌, ◌++◌, append_assoc}
use lib.ListN.{length, drop, length-append}
use borrow.Author.Tests.{ne_eqb, le-leb, lt-leb}
use Rattle.meaning.specs.Octets.{octet, at16, flat}
use Rattle.meaning.specs.Operation.{Op, malformed, shape_of, shape, Next, bad, got, whole, shaped, more, follow, parse_in, parse, is_some, from_broken, broken_in, broken, break_of}
use Rattle.meaning.specs.Profile.{is_release16, has_code}
use Rattle.meaning.proofs.Profiles.{no_code, shape_none}
use Rattle.meaning.proofs.Lists.{Each, Octets}
use Rattle.meaning.proofs.Encode.{encode, Fine, first_of, first_encoded, Split, shape-right, Shorter, shaped_shorter, same_bound, parse-step}

-- ---- what is no whole operation, on its octets (RULES 10.4 to 10.10, 10.15 to 10.18)

-- a code and the octets behind it, up to the end of the L octets: the code is 0, or 0A or more, or in Release 16 above 5; or the name is missing, or
-- half of it; or, of a set and of the four that are laid out as a set, the length, or some of the value
abbrev pub Unreadable : (p : ℕ) → List ℕ → Type 0
Unreadable p [] = ⊥
Unreadable p (c ∷ s) =
    ((c ≡ 0) ⊎ ((0x0A ≤ c) ⊎ ((is_release16 p ≡ true) × (6 ≤ c))))
    ⊎ ((((c ≡ 2) ⊎ ((c ≡ 4) ⊎ (c ≡ 5))) × (length s < 2))
    ⊎ (((c ≡ 3) ⊎ ((c ≡ 6) ⊎ ((c ≡ 7) ⊎ ((c ≡ 8) ⊎ (c ≡ 9))))) × (length s < 4 + (octet s 2 * 256 + octet s 3))))

bad≢got : (o : Op) (r : List ℕ) → bad ≡ got o r → ⊥
bad≢got o r e = false≢true (ap is_got e)
  where
    is_got : Next → Bool
    is_got bad = false
    is_got (got o r) = true

-- at its front nothing is found, and nothing is found at no other octets

whole-short : (w : ℕ) (s : List ℕ) (o : Op) → length s < w → whole w s o ≡ bad
unfolding whole
whole-short w s o h = rw (lt-leb w (length s) h)

short-whole : (w : ℕ) (s : List ℕ) (o : Op) → whole w s o ≡ bad → length s < w
unfolding whole
short-whole w s o e = at (dec_le w (length s))
  where
    at : Dec (w ≤ length s) → length s < w
    at (yes h) = absurd (bad≢got o (drop w s) (sym e ∙ rw (le-leb w (length s) h)))
    at (no h) = omega arith

-- by its code alone, whatever the profile
known_bad : (p c : ℕ) (s : List ℕ) → shaped (shape_of c) s ≡ bad → first_of p (c ∷ s) ≡ bad
unfolding shape shaped
known_bad p c s e = go (has_code p c)
  where
    go : (b : Bool) → shaped (cond b (shape_of c) malformed) s ≡ bad
    go true = e
    go false = refl

unreadable_bad : (p : ℕ) (s : List ℕ) → Unreadable p s → first_of p s ≡ bad
unfolding shape_of shaped at16
unreadable_bad p [] u = absurd u
unreadable_bad p (c ∷ s) (inl (inl e)) = known_bad p c s (rw e)
unreadable_bad p (c ∷ s) (inl (inr (inl h))) =
    let no : (d : ℕ) → d ≤ 9 → c ≢ d = λ d l e. omega arith in
    known_bad p c s
    (rw (
      ne_eqb c 1 (no 1 (omega arith)),
      ne_eqb c 2 (no 2 (omega arith)),
      ne_eqb c 3 (no 3 (omega arith)),
      ne_eqb c 4 (no 4 (omega arith)),
      ne_eqb c 5 (no 5 (omega arith)),
      ne_eqb c 6 (no 6 (omega arith)),
      ne_eqb c 7 (no 7 (omega arith)),
      ne_eqb c 8 (no 8 (omega arith)),
      ne_eqb c 9 (no 9 (omega arith)),
    ))
unreadable_bad p (c ∷ s) (inl (inr (inr (r, h)))) = rw (shape_none p c r h)
unreadable_bad p (c ∷ s) (inr (inl (inl e, h))) = known_bad p c s (rw e (whole-short 2 s _ h))
unreadable_bad p (c ∷ s) (inr (inl (inr (inl e), h))) = known_bad p c s (rw e (whole-short 2 s _ h))
unreadable_bad p (c ∷ s) (inr (inl (inr (inr e), h))) = known_bad p c s (rw e (whole-short 2 s _ h))
unreadable_bad p (c ∷ s) (inr (inr (inl e, h))) = known_bad p c s (rw e (whole-short (4 + (octet s 2 * 256 + octet s 3)) s _ h))
unreadable_bad p (c ∷ s) (inr (inr (inr (inl e), h))) = known_bad p c s (rw e (whole-short (4 + (octet s 2 * 256 + octet s 3)) s _ h))
unreadable_bad p (c ∷ s) (inr (inr (inr (inr (inl e)), h))) = known_bad p c s (rw e (whole-short (4 + (octet s 2 * 256 + octet s 3)) s _ h))
unreadable_bad p (c ∷ s) (inr (inr (inr (inr (inr (inl e))), h))) = known_bad p c s (rw e (whole-short (4 + (octet s 2 * 256 + octet s 3)) s _ h))
unreadable_bad p (c ∷ s) (inr (inr (inr (inr (inr (inr e))), h))) = known_bad p c s (rw e (whole-short (4 + (octet s 2 * 256 + octet s 3)) s _ h))

known_unreadable : (p c : ℕ) (s : List ℕ) → shaped (shape_of c) s ≡ bad → Unreadable p (c ∷ s)
unfolding shape_of shaped at16
known_unreadable p zero s e = inl (inl refl)
known_unreadable p (suc zero) s e = absurd (bad≢got _ _ (sym e))
known_unreadable p (suc (suc zero)) s e = inr (inl (inl refl, short-whole 2 s _ e))
known_unreadable p (suc (suc (suc zero))) s e = inr (inr (inl refl, short-whole (4 + (octet s 2 * 256 + octet s 3)) s _ e))
known_unreadable p (suc (suc (suc (suc zero)))) s e = inr (inl (inr (inl refl), short-whole 2 s _ e))
known_unreadable p (suc (suc (suc (suc (suc zero))))) s e = inr (inl (inr (inr refl), short-whole 2 s _ e))
known_unreadable p (suc (suc (suc (suc (suc (suc zero)))))) s e = inr (inr (inr (inl refl), short-whole (4 + (octet s 2 * 256 + octet s 3)) s _ e))
known_unreadable p (suc (suc (suc (suc (suc (suc (suc zero))))))) s e = inr (inr (inr (inr (inl refl)), short-whole (4 + (octet s 2 * 256 + octet s 3)) s _ e))
known_unreadable p (suc (suc (suc (suc (suc (suc (suc (suc zero)))))))) s e = inr (inr (inr (inr (inr (inl refl))), short-whole (4 + (octet s 2 * 256 + octet s 3)) s _ e))
known_unreadable p (suc (suc (suc (suc (suc (suc (suc (suc (suc zero))))))))) s e = inr (inr (inr (inr (inr (inr refl))), short-whole (4 + (octet s 2 * 256 + octet s 3)) s _ e))
known_unreadable p (suc (suc (suc (suc (suc (suc (suc (suc (suc (suc n)))))))))) s e = inl (inr (inl (omega arith)))

bad_unreadable : (p c : ℕ) (s : List ℕ) → first_of p (c ∷ s) ≡ bad → Unreadable p (c ∷ s)
unfolding shape
bad_unreadable p c s e = go (has_code p c) refl e
  where
    go : (b : Bool) → has_code p c ≡ b → shaped (cond b (shape_of c) malformed) s ≡ bad → Unreadable p (c ∷ s)
    go true h f = known_unreadable p c s f
    go false h f = inl (inr (inr (no_code p c h)))

-- ---- `broken` with no bound

goes_on : (n : ℕ) (s : List ℕ) (nx : Next) (g h : List ℕ → List ℕ) → Shorter n nx → ((r : List ℕ) → length r ≤ n → g r ≡ h r) → from_broken s nx g ≡ from_broken s nx h
unfolding from_broken
goes_on n s bad g h l e = refl
goes_on n s (got o r) g h l e = e r l

broken_end : (p n : ℕ) → broken_in p n [] ≡ broken_in p zero []
unfolding broken_in
broken_end p zero = refl
broken_end p (suc n) = refl

broken_settled : (p j k c : ℕ) (s : List ℕ) → ((r : List ℕ) → length r ≤ length s → broken_in p j r ≡ broken_in p k r) → broken_in p (suc j) (c ∷ s) ≡ broken_in p (suc k) (c ∷ s)
unfolding broken_in
broken_settled p j k c s h = goes_on (length s) (c ∷ s) (shaped (shape p c) s) (λ r. broken_in p j r) (λ r. broken_in p k r) (shaped_shorter (shape p c) s) h

broken-step : (p c : ℕ) (s : List ℕ) → broken p (c ∷ s) ≡ from_broken (c ∷ s) (shaped (shape p c) s) (broken p)
unfolding broken broken_in
broken-step p c s =
    goes_on (length s) (c ∷ s) (shaped (shape p c) s) (λ r. broken_in p (length s) r) (broken p) (shaped_shorter (shape p c) s)
    (λ r h. same_bound (broken_in p) (broken_end p) (broken_settled p) (length s) (length r) r h (omega arith))

pub broken-nil : (p : ℕ) → (broken p) [] ≡ []
unfolding broken broken_in
broken-nil p = refl

-- ---- the first operation, known

-- where it is whole, what is parsed and what is broken is told by the octets behind it
pub parse-got : (p : ℕ) (s : List ℕ) (o : Op) (r : List ℕ) → first_of p s ≡ got o r → parse p s ≡ more o (parse p r)
unfolding follow
parse-got p [] o r e = absurd (bad≢got o r e)
parse-got p (c ∷ s) o r e = parse-step p c s ∙ ap (λ (nx : Next). follow nx (parse p)) e

pub broken-got : (p : ℕ) (s : List ℕ) (o : Op) (r : List ℕ) → first_of p s ≡ got o r → broken p s ≡ broken p r
unfolding from_broken
broken-got p [] o r e = absurd (bad≢got o r e)
broken-got p (c ∷ s) o r e = broken-step p c s ∙ ap (λ (nx : Next). from_broken (c ∷ s) nx (broken p)) e

-- where it is not, all of the octets are broken
pub broken-bad : (p : ℕ) (s : List ℕ) → first_of p s ≡ bad → broken p s ≡ s
unfolding from_broken
broken-bad p [] e = broken-nil p
broken-bad p (c ∷ s) e = broken-step p c s ∙ ap (λ (nx : Next). from_broken (c ∷ s) nx (broken p)) e

parse-bad : (p c : ℕ) (s : List ℕ) → first_of p (c ∷ s) ≡ bad → parse p (c ∷ s) ≡ none
unfolding follow
parse-bad p c s e = parse-step p c s ∙ ap (λ (nx : Next). follow nx (parse p)) e

-- ---- whole operations, and octets behind them that begin with none

-- what is broken of them is what stands behind them
pub broken-behind : (p : ℕ) (os : List Op) (u : List ℕ) → Each (Fine p) os → first_of p u ≡ bad → broken p (flat encode os ++ u) ≡ u
unfolding flat
broken-behind p [] u f e = broken-bad p u e
broken-behind p (o ∷ os) u f e =
    ap (broken p) (append_assoc (encode o) (flat encode os) u)
    ∙ broken-got p (encode o ++ (flat encode os ++ u)) o (flat encode os ++ u) (first_encoded p o (flat encode os ++ u) f.0)
    ∙ broken-behind p os u f.1 e

-- and they are no list of operations
parse-behind : (p : ℕ) (os : List Op) (c : ℕ) (s : List ℕ) → Each (Fine p) os → first_of p (c ∷ s) ≡ bad → parse p (flat encode os ++ (c ∷ s)) ≡ none
unfolding flat more
parse-behind p [] c s f e = parse-bad p c s e
parse-behind p (o ∷ os) c s f e =
    ap (parse p) (append_assoc (encode o) (flat encode os) (c ∷ s))
    ∙ parse-got p (encode o ++ (flat encode os ++ (c ∷ s))) o (flat encode os ++ (c ∷ s)) (first_encoded p o (flat encode os ++ (c ∷ s)) f.0)
    ∙ ap (more o) (parse-behind p os c s f.1 e)

-- all octets are such: operations, and what is broken
record Ahead (p : ℕ) (s u : List ℕ) : Type 0 where
  ops : List Op
  fine : Each (Fine p) ops
  joined : s ≡ flat encode ops ++ u
  stops : first_of p u ≡ bad

ahead_none : (p : ℕ) (s : List ℕ) → first_of p s ≡ bad → Ahead p s s
unfolding flat
ahead_none p s e = record { ops = []; fine = tt; joined = refl; stops = e }

ahead_more : (p : ℕ) (s : List ℕ) (o : Op) (r u : List ℕ) → s ≡ encode o ++ r → Fine p o → Ahead p r u → Ahead p s u
unfolding flat
ahead_more p s o r u e f a =
    record {
      ops = o ∷ a.ops;
      fine = (f, a.fine);
      joined = e ∙ ap (λ (l : List ℕ). encode o ++ l) a.joined ∙ sym (append_assoc (encode o) (flat encode a.ops) u);
      stops = a.stops;
    }

ahead_by : (p c : ℕ) (s : List ℕ) (nx : Next) (rest : List ℕ → List ℕ) → shaped (shape p c) s ≡ nx → Split p (c ∷ s) nx → Shorter (length s) nx
    → ((r : List ℕ) → length r ≤ length s → Octets r → Ahead p r (rest r)) → Ahead p (c ∷ s) (from_broken (c ∷ s) nx rest)
unfolding from_broken
ahead_by p c s bad rest e q l h = ahead_none p (c ∷ s) e
ahead_by p c s (got o r) rest e q l h = ahead_more p (c ∷ s) o r (rest r) q.0 q.1 (h r l q.2)

ahead_in : (p n : ℕ) (s : List ℕ) → length s ≤ n → Octets s → Ahead p s (broken_in p n s)
unfolding broken_in
ahead_in p zero [] h o = ahead_none p [] refl
ahead_in p zero (c ∷ s) h o = absurd (omega arith)
ahead_in p (suc n) [] h o = ahead_none p [] refl
ahead_in p (suc n) (c ∷ s) h o =
    ahead_by p c s (shaped (shape p c) s) (λ r. broken_in p n r) refl (shape-right p c s o.1) (shaped_shorter (shape p c) s)
    (λ r l q. ahead_in p n r (omega arith) q)

ahead_of : (p : ℕ) (s : List ℕ) → Octets s → Ahead p s (broken p s)
unfolding broken
ahead_of p s o = ahead_in p (length s) s (omega arith) o

-- what cannot be parsed in n steps has something broken in n steps

pub more_none : (o : Op) (p : Option (List Op)) → more o p ≡ none → p ≡ none
unfolding more
more_none o none e = refl
more_none o (some os) e = absurd (false≢true (sym (ap is_some e)))

broken_by : (p n c : ℕ) (s : List ℕ) (nx : Next) → follow nx (λ r. parse_in p n r) ≡ none → ((r : List ℕ) → parse_in p n r ≡ none → 1 ≤ length (broken_in p n r))
    → 1 ≤ length (from_broken (c ∷ s) nx (λ r. broken_in p n r))
unfolding from_broken follow
broken_by p n c s bad e h = omega arith
broken_by p n c s (got o r) e h = h r (more_none o (parse_in p n r) e)

pub something_broken : (p n : ℕ) (s : List ℕ) → parse_in p n s ≡ none → 1 ≤ length (broken_in p n s)
unfolding parse_in broken_in
something_broken p zero [] e = absurd (false≢true (sym (ap is_some e)))
something_broken p zero (c ∷ s) e = omega arith
something_broken p (suc n) [] e = absurd (false≢true (sym (ap is_some e)))
something_broken p (suc n) (c ∷ s) e = broken_by p n c s (shaped (shape p c) s) e (λ r f. something_broken p n r f)

-- ---- where the octets of a list break

-- Of the L octets t: whole operations come first, none is allowed, and what stands behind them is malformed or cut short. They end at the position p
-- of a message, of which three octets stand before the list.
pub record Breaks (p : ℕ) (t : List ℕ) (q : ℕ) : Type 0 where
  pub ahead : List Op
  pub fine : Each (Fine p) ahead
  pub left : List ℕ
  pub split : t ≡ flat encode ahead ++ left
  pub at : q ≡ 3 + length (flat encode ahead)
  pub here : Unreadable p left

pub break_inside : (p : ℕ) (t : List ℕ) (q : ℕ) → Breaks p t q → (3 ≤ q) × (q ≤ 2 + length t)
break_inside p t q b = (omega (arith, b.at), omega (arith, b.at, some_left b.left b.here, ap length b.split ∙ length-append (flat encode b.ahead) b.left))
  where
    some_left : (u : List ℕ) → Unreadable p u → 1 ≤ length u
    some_left [] h = absurd h
    some_left (c ∷ u) h = omega arith

something : (p : ℕ) (t : List ℕ) → parse p t ≡ none → 1 ≤ length (broken p t)
unfolding parse broken
something p t e = something_broken p (length t) t e

-- a list that cannot be parsed breaks at `break_of`
pub breaks_there : (p : ℕ) (t : List ℕ) → Octets t → parse p t ≡ none → Breaks p t (break_of p t)
unfolding break_of
breaks_there p t o e = at (broken p t) (something p t e) (ahead_of p t o)
  where
    at : (u : List ℕ) → 1 ≤ length u → Ahead p t u → Breaks p t (3 + (length t - length u))
    at [] l a = absurd (omega arith)
    at (c ∷ u) l a =
        record {
          ahead = a.ops;
          fine = a.fine;
          left = c ∷ u;
          split = a.joined;
          at = omega (arith, ap length a.joined ∙ length-append (flat encode a.ops) (c ∷ u));
          here = bad_unreadable p c u a.stops;
        }

-- and nowhere else
pub breaks_is : (p : ℕ) (t : List ℕ) (q : ℕ) → Breaks p t q → q ≡ break_of p t
unfolding break_of
breaks_is p t q b =
    let e : broken p t ≡ b.left = ap (broken p) b.split ∙ broken-behind p b.ahead b.left b.fine (unreadable_bad p b.left b.here) in
    omega (arith, b.at, ap length e, ap length b.split ∙ length-append (flat encode b.ahead) b.left)

pub one_break : (p : ℕ) (t : List ℕ) (h q : ℕ) → Breaks p t h → Breaks p t q → h ≡ q
one_break p t h q b d = breaks_is p t h b ∙ sym (breaks_is p t q d)

-- a list that breaks anywhere cannot be parsed
pub breaks_none : (p : ℕ) (t : List ℕ) (q : ℕ) → Breaks p t q → parse p t ≡ none
breaks_none p t q b = ap (parse p) b.split ∙ behind b.left b.here
  where
    behind : (u : List ℕ) → Unreadable p u → parse p (flat encode b.ahead ++ u) ≡ none
    behind [] h = absurd h
    behind (c ∷ u) h = parse-behind p b.ahead c u b.fine (unreadable_bad p (c ∷ u) h)
