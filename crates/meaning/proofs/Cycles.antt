-- What a driver of the gates relies on (RULES 22.10 to 22.14): how long it may sleep, what it finds when it wakes, and that a cycle goes through the
-- list once.
use Prim.Native.Nat.{ℕ, zero, suc, ◌+◌, ◌-◌, ◌*◌, ◌%◌, ◌≤◌, ◌<◌}
use native.Mathlib.Omega.{arith}
use native.Mathlib.Nat.{mod-add-mod, mod-eq_of_lt, mod_self, add-mod_right}
use mathlib.Core.Path.{◌≡◌, refl, sym, ◌∙◌}
use mathlib.Core.Logic.{⊎_elim}
use mathlib.Core.Bool.{cond}
use mathlib.Core.List.{List}
use lib.Dec.{ltb}
use lib.IntN.{pos, ◌+ℤ◌}
use borrow.Author.Tests.{lt-ltb, le-ltb}
use Rattle.meaning.specs.Octets.{octet}
use Rattle.meaning.specs.Gates.{Gates, refused, not_started, opens, gates_of}
use Rattle.meaning.proofs.Values.{sum_over}
use Rattle.meaning.proofs.Blocks.{BlockRule}
use Rattle.meaning.proofs.Holding.{lasts, begins, cycle_in, Holding, order, lasts_some, within-cycle, gates_spelt, holds_answered, answered_holds}

-- ---- the time when j nanoseconds have passed: later in the same cycle, or at the beginning of the next

time_on : (i j c : ℕ) → i % c + j < c → (i + j) % c ≡ i % c + j
time_on i j c l = sym (mod-add-mod i c j) ∙ mod-eq_of_lt l

time_over : (i j c : ℕ) → i % c + j ≡ c → (i + j) % c ≡ 0
time_over i j c e = sym (mod-add-mod i c j) ∙ rw e (mod_self c)

-- ---- an entry of n, from its beginning on

-- the nanoseconds that it has in each cycle: its interval, the last one all that is left
abbrev pub stay : List ℕ → ℕ → ℕ → ℕ
stay b n k = cond (ltb (suc k) n) (lasts b k) (cycle_in b n - begins b k)

-- the answer at its beginning
abbrev pub begun : List ℕ → ℕ → ℕ → Gates
begun b n k = opens (octet b (16 + 7 * k)) k (stay b n k)

-- ---- a walk from instant 0 on, in steps of the answers

abbrev pub left : Gates → ℕ
left (refused n) = 0
left not_started = 0
left (opens s k d) = d

-- the instant after k steps
unfoldable pub woken : List ℕ → ℕ → ℕ
woken b zero = 0
woken b (suc k) = woken b k + left (gates_of b (pos (woken b k)))

module _ (b : List ℕ) (n : ℕ) (r : BlockRule b n) where
  abbrev c : ℕ
  c = cycle_in b n

  stay_inner : (k : ℕ) → suc k < n → stay b n k ≡ lasts b k
  stay_inner k l = rw (lt-ltb (suc k) n l)

  stay_last : (k : ℕ) → suc k ≡ n → stay b n k ≡ c - begins b k
  stay_last k e = rw (le-ltb (suc k) n (omega arith))

  at_beginning : (k : ℕ) → k < n → Holding b n (begins b k) (octet b (16 + 7 * k)) k (stay b n k)
  unfolding sum_over
  at_beginning k l =
      let f = within-cycle b n r k l in
      let g = lasts_some b n r k l in
      record {
        listed = l;
        states_are = refl;
        since = omega arith;
        soon = ⊎_elim (λ m. omega (arith, stay_inner k m)) (λ m. omega (arith, stay_last k (omega arith))) (order (suc k) n);
        until = λ m. omega (arith, stay_inner k m);
        ends = λ m. omega (arith, stay_last k m);
      }

  begun_answered : (i k : ℕ) → k < n → i % c ≡ begins b k → gates_of b (pos i) ≡ begun b n k
  begun_answered i k l e = holds_answered b n r i _ k _ (rw e (at_beginning k l))

  -- ---- one cycle more changes nothing

  pub cycle_later : (i : ℕ) → gates_of b (pos i +ℤ pos c) ≡ gates_of b (pos i)
  cycle_later i = rw (gates_spelt b n r (i + c), gates_spelt b n r i, add-mod_right)

  -- ---- what is answered at instant i: entry k, with d nanoseconds left

  module _ (i s k d : ℕ) (e : gates_of b (pos i) ≡ opens s k d) where
    holding : Holding b n (i % c) s k d
    holding = answered_holds b n r i s k d e

    -- the change comes within the cycle
    change : i % c + d ≤ c
    change =
        ⊎_elim (λ l. omega (arith, holding.until l, within-cycle b n r k holding.listed)) (λ l. omega (arith, holding.ends (omega (arith, holding.listed)))) (order (suc k) n)

    pub nanoseconds_left : (1 ≤ d) × (d ≤ c)
    nanoseconds_left = (holding.soon, omega (arith, change))

    -- until then nothing changes
    pub sleeps : (j : ℕ) → j < d → gates_of b (pos (i + j)) ≡ opens s k (d - j)
    sleeps j l =
        let h = holding in
        holds_answered b n r (i + j) s k (d - j)
        (rw (time_on i j c (omega (arith, change)))
        (record {
          listed = h.listed;
          states_are = h.states_are;
          since = omega (arith, h.since);
          soon = omega arith;
          until = λ m. omega (arith, h.until m);
          ends = λ m. omega (arith, h.ends m);
        }))

    -- then the next entry is open
    pub wakes_next : suc k < n → gates_of b (pos (i + d)) ≡ begun b n (suc k)
    unfolding sum_over
    wakes_next l =
        let t : i % c + d ≡ begins b (suc k) = holding.until l in
        let f = within-cycle b n r (suc k) l in
        let g = lasts_some b n r (suc k) l in
        begun_answered (i + d) (suc k) l (time_on i d c (omega arith) ∙ t)

    -- after the last the first
    pub wakes_first : suc k ≡ n → gates_of b (pos (i + d)) ≡ begun b n 0
    unfolding sum_over
    wakes_first l = begun_answered (i + d) 0 (omega (arith, r.at_least_one)) (time_over i d c (holding.ends l))

  -- ---- the whole cycle

  -- an entry begins before the cycle ends
  begins-inside : (k : ℕ) → k < n → begins b k < c
  unfolding sum_over
  begins-inside k l = omega (arith, within-cycle b n r k l, lasts_some b n r k l)

  at_begins : (k : ℕ) → k < n → gates_of b (pos (begins b k)) ≡ begun b n k
  at_begins k l = begun_answered (begins b k) k l (mod-eq_of_lt (begins-inside k l))

  -- after k steps entry k begins
  woken_at : (k : ℕ) → k < n → woken b k ≡ begins b k
  unfolding woken sum_over
  woken_at zero l = refl
  woken_at (suc k) l = rw (woken_at k (omega arith), at_begins k (omega arith)) (omega (arith, stay_inner k l))

  -- so the steps come to every entry once, in the order of the list
  pub visited : (k : ℕ) → k < n → gates_of b (pos (woken b k)) ≡ begun b n k
  visited k l = rw (woken_at k l) (at_begins k l)

  -- and end at the cycle
  pub woken_cycle : woken b n ≡ c
  unfolding woken
  woken_cycle = go n refl
    where
      go : (k : ℕ) → k ≡ n → woken b k ≡ c
      go zero e = absurd (omega (arith, r.at_least_one))
      go (suc k) e =
          let l : k < n = omega arith in
          rw (woken_at k l, at_begins k l) (omega (arith, stay_last k e, begins-inside k l))
