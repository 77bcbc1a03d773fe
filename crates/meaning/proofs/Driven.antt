-- Which gates are open, asked of memory (RULES 22.1 to 22.5): what refuses, and that nothing but the running block is asked, which is one that a commit
-- accepts.
use Prim.Native.Nat.{ℕ, suc, ◌+◌, ◌-◌, ◌*◌, ◌<◌}
use native.Mathlib.Omega.{arith}
use mathlib.Core.Path.{◌≡◌, refl, sym, ◌∙◌}
use mathlib.Core.Bool.{true, false}
use mathlib.Core.List.{List}
use lib.ListN.{length}
use lib.IntN.{ℤ, pos, negsuc}
use Rattle.meaning.specs.Checks.{first_failed, when_passed}
use Rattle.meaning.specs.Table.{row_at, rows, commit}
use Rattle.meaning.specs.Block.{joined_block, form_and_fit}
use Rattle.meaning.specs.Memory.{present, body, sound}
use Rattle.meaning.specs.Profile.{sound_in}
use Rattle.meaning.specs.Step.{block, commits}
use Rattle.meaning.specs.Gates.{refused, opens, gates_of, gates_checks, gates}
use Rattle.meaning.proofs.Profiles.{in_sound}
use Rattle.meaning.proofs.Blocks.{BlockRule, form_spelt, running-kept}
use Rattle.meaning.proofs.Holding.{Answers, gates-answered}
use Rattle.meaning.proofs.Cycles.{begun, sleeps, wakes_next, wakes_first}
use Rattle.meaning.proofs.Spelt.{sound_spelt}
use Rattle.meaning.proofs.Kept.{committing}
use Rattle.meaning.proofs.Commit.{list-joined, ratio-joined}
use Rattle.meaning.proofs.Running.{SameRunning}

-- ---- what refuses, and in which order

module _ (p : ℕ) (m : List ℕ) (z : ℤ) where
  pub gates_unsound : sound_in p m ≡ false → gates p m z ≡ refused 1
  unfolding gates gates_checks first_failed when_passed
  gates_unsound e = rw e

  pub gates_idle : sound_in p m ≡ true → present m commit ≡ false → gates p m z ≡ refused 15
  unfolding gates gates_checks first_failed when_passed
  gates_idle e f = rw (e, f)

  pub gates-running : sound_in p m ≡ true → present m commit ≡ true → gates p m z ≡ gates_of (body m commit) z
  unfolding gates gates_checks first_failed when_passed
  gates-running e f = rw (e, f)

-- ---- the block that is asked

-- what runs keeps its form and fit
pub running-form : (m : List ℕ) → sound m ≡ true → present m commit ≡ true → form_and_fit (body m commit) ≡ true
unfolding row_at rows
running-form m e f = sym (running-kept (body m commit)) ∙ ((sound_spelt m e).entries commit (omega arith)).present_rule f

-- a block of n entries, told by its octets, that has an answer at every instant
abbrev pub AnswersAll : List ℕ → Type 0
AnswersAll b = (n : ℕ) × BlockRule b n × ((z : ℤ) → Answers b n z (gates_of b z))

form-answered : (b : List ℕ) → form_and_fit b ≡ true → AnswersAll b
form-answered b e =
    let r = form_spelt b e in
    (r.0, r.1, gates-answered b r.0 r.1)

-- each block that a commit accepts answers every instant
pub accepted_answered : (m v : List ℕ) → commits m v ≡ true → AnswersAll (block m)
accepted_answered m v e = form-answered (block m) (committing m v e).form

-- so does each memory in which one runs
pub memory-answered : (p : ℕ) (m : List ℕ) (z : ℤ) → sound_in p m ≡ true → present m commit ≡ true
    → (n : ℕ) × BlockRule (body m commit) n × Answers (body m commit) n z (gates p m z)
memory-answered p m z e f =
    let a = form-answered (body m commit) (running-form m (in_sound p m e) f) in
    (a.0, a.1, rw (gates-running p m z e f) (a.2 z))

-- whatever leaves the running block leaves the answers
pub same-gates : (p : ℕ) (m m' : List ℕ) (z : ℤ) → sound_in p m ≡ true → sound_in p m' ≡ true → SameRunning m m' → gates p m' z ≡ gates p m z
unfolding gates gates_checks
same-gates p m m' z e f s = rw (e, f, s.runs, s.block)

-- the base time is not asked
pub base_not_asked : (b b' c l r : List ℕ) (z : ℤ) → length b ≡ 10 → length b' ≡ 10 → length c ≡ 4 → length r ≡ 8
    → gates_of (joined_block b c l r) z ≡ gates_of (joined_block b' c l r) z
unfolding gates_of
base_not_asked b b' c l r (negsuc i) hb hb' hc hr = refl
base_not_asked b b' c l r (pos i) hb hb' hc hr =
    rw (list-joined b c l r hb hc hr, list-joined b' c l r hb' hc hr, ratio-joined b c l r hb hc hr, ratio-joined b' c l r hb' hc hr)

-- ---- what a driver relies on, of the answers that it gets

module _ (p : ℕ) (m : List ℕ) (sounds : sound_in p m ≡ true) (runs : present m commit ≡ true) (i s k d : ℕ) (e : gates p m (pos i) ≡ opens s k d) where
  abbrev b : List ℕ
  b = body m commit

  answered : gates_of b (pos i) ≡ opens s k d
  answered = sym (gates-running p m (pos i) sounds runs) ∙ e

  -- until the nanoseconds have passed nothing changes
  pub memory_sleeps : (j : ℕ) → j < d → gates p m (pos (i + j)) ≡ opens s k (d - j)
  memory_sleeps j l =
      let r = form_spelt b (running-form m (in_sound p m sounds) runs) in
      gates-running p m (pos (i + j)) sounds runs ∙ sleeps b r.0 r.1 i s k d answered j l

  -- then the next entry of the n is open, after the last the first
  pub memory_wakes : (n : ℕ) × (length b ≡ 22 + 7 * n)
      × ((suc k < n → gates p m (pos (i + d)) ≡ begun b n (suc k)) × (suc k ≡ n → gates p m (pos (i + d)) ≡ begun b n 0))
  memory_wakes =
      let r = form_spelt b (running-form m (in_sound p m sounds) runs) in
      let g = gates-running p m (pos (i + d)) sounds runs in
      (r.0, r.1.long, (λ l. g ∙ wakes_next b r.0 r.1 i s k d answered l, λ l. g ∙ wakes_first b r.0 r.1 i s k d answered l))
