-- Which entry a block answers at a time of its cycle, told by the block's octets alone (RULES 22.5 to 22.9): entry i has its gate states in octet
-- 16 + 7 i and its interval from octet 17 + 7 i on. There is one such answer, and no other.
use Prim.Native.Nat.{ℕ, zero, suc, ◌+◌, ◌-◌, ◌*◌, ◌/◌, ◌%◌, ◌≤◌, ◌<◌}
use native.Mathlib.Omega.{arith}
use native.Mathlib.Nat.{add-zero, add_assoc, le_refl, mod-lt}
use native.Mathlib.Numerals.{add-one}
use mathlib.Core.Path.{◌≡◌, refl, sym, ap, ◌∙◌}
use mathlib.Core.Logic.{◌⊎◌, inl, inr, ⊎_elim}
use mathlib.Core.Bool.{Bool, true, false}
use mathlib.Core.List.{List}
use lib.ListN.{length, drop}
use lib.Seq.{get_or-drop, drop-drop}
use lib.Dec.{ltb}
use lib.IntN.{ℤ, pos, negsuc}
use borrow.Author.Tests.{ltb-true, ltb-false, lt-ltb, le-ltb}
use Rattle.meaning.specs.Octets.{octet, at16, at32}
use Rattle.meaning.specs.Block.{interval, list_of}
use Rattle.meaning.specs.Gates.{Gates, not_started, opens, states, entry_at, gates_of}
use Rattle.meaning.proofs.Lists.{part-octet}
use Rattle.meaning.proofs.Values.{four_at, four_octets_lem, sum_over}
use Rattle.meaning.proofs.Blocks.{BlockRule, four_part, list_count, block-cycle}

-- ---- the statement

-- the nanoseconds of an entry's interval, of the intervals before an entry, and of the cycle of a block of n entries
abbrev pub lasts : List ℕ → ℕ → ℕ
lasts b k = four_at b (17 + 7 * k)

abbrev pub begins : List ℕ → ℕ → ℕ
begins b k = sum_over k (lasts b)

abbrev pub cycle_in : List ℕ → ℕ → ℕ
cycle_in b n = four_at b (14 + 7 * n) * 1000000000 / four_at b (18 + 7 * n)

-- at time t the entry k, with the states s, has d nanoseconds left
pub record Holding (b : List ℕ) (n t s k d : ℕ) : Type 0 where
  pub listed : k < n
  pub states_are : s ≡ octet b (16 + 7 * k)
  pub since : begins b k ≤ t
  pub soon : 1 ≤ d
  pub until : suc k < n → t + d ≡ begins b (suc k)
  pub ends : suc k ≡ n → t + d ≡ cycle_in b n

-- the answer at an instant
pub data Answers (b : List ℕ) (n : ℕ) : ℤ → Gates → Type 0 where
  before : (i : ℕ) → Answers b n (negsuc i) not_started
  during : (i s k d : ℕ) → Holding b n (i % cycle_in b n) s k d → Answers b n (pos i) (opens s k d)

-- ---- there is an answer

pub order : (a b : ℕ) → (a < b) ⊎ (b ≤ a)
order a b = go (ltb a b) refl
  where
    go : (q : Bool) → ltb a b ≡ q → (a < b) ⊎ (b ≤ a)
    go true e = inl (ltb-true a b e)
    go false e = inr (ltb-false a b e)

-- an entry's interval, where a list is dropped up to the entry
pub interval_at : (v : List ℕ) (at : ℕ) → interval (drop at v) ≡ at32 v (at + 3)
unfolding interval at32 at16
interval_at v at = simp (get_or-drop, add_assoc)

-- the entries of a block, as its list begins with them
module _ (b : List ℕ) (n : ℕ) (h : length b ≡ 22 + 7 * n) (k : ℕ) (l : k < n) where
  abbrev from_entry : List ℕ
  from_entry = drop (7 * k) (list_of b)

  states_there : states from_entry ≡ octet b (16 + 7 * k)
  unfolding states list_of
  states_there =
      let e : 14 + (7 * k + 2) ≡ 16 + 7 * k = omega arith in
      rw (get_or-drop, part-octet b 14 (length b - 22) (7 * k + 2) (omega arith), e)

  interval_there : interval from_entry ≡ lasts b k
  unfolding list_of
  interval_there =
      interval_at (list_of b) (7 * k)
      ∙ four_octets_lem (list_of b) (7 * k + 3)
      ∙ four_part b 14 (length b - 22) (7 * k + 3) (17 + 7 * k) (omega arith) (omega arith)

  next_there : drop 7 from_entry ≡ drop (7 * suc k) (list_of b)
  next_there =
      let e : 7 * k + 7 ≡ 7 * suc k = omega arith in
      rw (drop-drop, e)

-- what is answered from entry k on, m entries before the last
module _ (b : List ℕ) (n t : ℕ) (r : BlockRule b n) (inside : t < cycle_in b n) where
  abbrev Held : Gates → Type 0
  Held g = (s : ℕ) × (k : ℕ) × (d : ℕ) × (g ≡ opens s k d) × Holding b n t s k d

  held : (m k : ℕ) → suc (k + m) ≡ n → begins b k ≤ t → Held (entry_at m (drop (7 * k) (list_of b)) k (begins b k) t (cycle_in b n))
  unfolding entry_at sum_over
  held zero k e since = (
    octet b (16 + 7 * k),
    k,
    cycle_in b n - t,
    ap (λ (s : ℕ). opens s k (cycle_in b n - t)) (states_there b n r.long k (omega arith)),
    record { listed = omega arith; states_are = refl; since = since; soon = omega arith; until = λ l. absurd (omega arith); ends = λ l. omega arith },
  )
  held (suc m) k e since =
      let i : interval (drop (7 * k) (list_of b)) ≡ lasts b k = interval_there b n r.long k (omega arith) in
      ⊎_elim
      (λ (l : t < begins b (suc k)). (
        octet b (16 + 7 * k),
        k,
        begins b (suc k) - t,
        rw (i, lt-ltb t (begins b k + lasts b k) l, states_there b n r.long k (omega arith)),
        record { listed = omega arith; states_are = refl; since = since; soon = omega arith; until = λ _. omega arith; ends = λ q. absurd (omega arith) },
      ))
      (λ (l : begins b (suc k) ≤ t).
      rw (i, le-ltb t (begins b k + lasts b k) l, next_there b n r.long k (omega arith), add-one)
      (held m (suc k) (omega arith) l))
      (order t (begins b (suc k)))

-- ---- there is no other

-- an entry does not begin before an earlier one ends
rises : (b : List ℕ) (j m : ℕ) → begins b (suc j) ≤ begins b (suc j + m)
unfolding sum_over
rises b j zero = rw add-zero (le_refl _)
rises b j (suc m) =
    let e : suc j + suc m ≡ suc (suc j + m) = omega arith in
    rw e (omega (arith, rises b j m))

pub earlier : (b : List ℕ) (j k : ℕ) → j < k → begins b (suc j) ≤ begins b k
earlier b j k l =
    let e : k ≡ suc j + (k - suc j) = omega arith in
    rw e (rises b j (k - suc j))

-- of two entries that hold neither is later
not_later : (b : List ℕ) (n t s j d s' k d' : ℕ) → Holding b n t s j d → Holding b n t s' k d' → j < k → ⊥
not_later b n t s j d s' k d' p q l = omega (arith, p.until (omega (arith, q.listed)), earlier b j k l, q.since, p.soon)

pub only_one : (b : List ℕ) (n t s j d s' k d' : ℕ) → Holding b n t s j d → Holding b n t s' k d' → opens s j d ≡ opens s' k d'
only_one b n t s j d s' k d' p q =
    let e : j ≡ k =
    ⊎_elim (λ l. absurd (not_later b n t s j d s' k d' p q l)) (λ l. ⊎_elim (λ m. absurd (not_later b n t s' k d' s j d q p m)) (λ m. omega arith) (order k j)) (order j k) in
    let f : s ≡ s' = p.states_are ∙ rw e (sym q.states_are) in
    let g : d ≡ d' =
    ⊎_elim
    (λ l. omega (arith, p.until (omega arith), q.until l, ap (λ (x : ℕ). begins b (suc x)) e))
    (λ l. omega (arith, p.ends (omega (arith, q.listed)), q.ends (omega (arith, q.listed)))) (order (suc k) n) in
    cc

-- ---- the laws

module _ (b : List ℕ) (n : ℕ) (r : BlockRule b n) where
  -- the intervals fit the cycle, and none of them is empty
  pub lasts_some : (k : ℕ) → k < n → 1 ≤ lasts b k
  lasts_some k l = rw e at (r.entries k l).nonzero
    where
      e : 14 + 7 * k + 3 ≡ 17 + 7 * k
      e = omega arith

  pub within-cycle : (k : ℕ) → k < n → begins b (suc k) ≤ cycle_in b n
  within-cycle k l = omega (arith, r.fit, earlier b k n l)

  pub cycle_some : 1 ≤ cycle_in b n
  unfolding sum_over
  cycle_some = omega (arith, lasts_some 0 r.at_least_one, within-cycle 0 r.at_least_one)

  pub gates_spelt : (i : ℕ) → gates_of b (pos i) ≡ entry_at (n - 1) (list_of b) 0 0 (i % cycle_in b n) (cycle_in b n)
  unfolding gates_of
  gates_spelt i = rw (block-cycle b n r.long, list_count b n r.long)

  -- each instant has an answer
  pub gates-answered : (z : ℤ) → Answers b n z (gates_of b z)
  unfolding gates_of sum_over
  gates-answered (negsuc i) = before i
  gates-answered (pos i) =
      let a : Held b n (i % cycle_in b n) r (mod-lt i cycle_some) (entry_at (n - 1) (list_of b) 0 0 (i % cycle_in b n) (cycle_in b n)) =
      held b n (i % cycle_in b n) r (mod-lt i cycle_some) (n - 1) 0 (omega (arith, r.at_least_one)) (omega arith) in
      rw (gates_spelt i ∙ a.3) (during i a.0 a.1 a.2 a.4)

  -- and one alone
  pub gates_one : (z : ℤ) (g g' : Gates) → Answers b n z g → Answers b n z g' → g ≡ g'
  gates_one (negsuc i) _ _ (before _) (before _) = refl
  gates_one (pos i) _ _ (during _ s k d p) (during _ s' k' d' q) = only_one b n (i % cycle_in b n) s k d s' k' d' p q

  -- so an entry that holds is answered, and one that is answered holds
  pub holds_answered : (i s k d : ℕ) → Holding b n (i % cycle_in b n) s k d → gates_of b (pos i) ≡ opens s k d
  holds_answered i s k d p = gates_one (pos i) _ _ (gates-answered (pos i)) (during i s k d p)

  pub answered_holds : (i s k d : ℕ) → gates_of b (pos i) ≡ opens s k d → Holding b n (i % cycle_in b n) s k d
  answered_holds i s k d e = of (rw e at (gates-answered (pos i)))
    where
      of : Answers b n (pos i) (opens s k d) → Holding b n (i % cycle_in b n) s k d
      of (during _ _ _ _ p) = p
