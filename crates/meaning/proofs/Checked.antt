-- What comes of checks: where all pass a call gives what it is made for and a set stores; where one fails a call tells its number, and neither
-- changes anything. Larger laws stand on these.
use Prim.Native.Nat.{ℕ, zero, suc}
use native.Mathlib.Omega.{arith}
use mathlib.Core.Path.{◌≡◌, refl, ap}
use mathlib.Core.Bool.{Bool, true, false}
use mathlib.Core.List.{List}
use Rattle.meaning.specs.Checks.{Checks, passed, check, first_failed, when_passed}
use Rattle.meaning.specs.Table.{place}
use Rattle.meaning.specs.Memory.{store}
use Rattle.meaning.specs.Step.{set_checks, stored, set_memory}
use Rattle.meaning.specs.Calls.{Outcome, done, number_only, call, located}

-- ---- a call

pub call-done : (cs : Checks) (o : Outcome) (m room : List ℕ) → first_failed cs ≡ 0 → call cs o m room ≡ o
unfolding call when_passed
call-done cs o m room e = rw e

pub call-refused : (cs : Checks) (o : Outcome) (m room : List ℕ) (n : ℕ) → first_failed cs ≡ suc n → call cs o m room ≡ number_only (suc n) m room
unfolding call when_passed
call-refused cs o m room n e = ap (λ (i : ℕ). when_passed i o (λ k. number_only k m room)) e

-- what holds of both holds of the call
pub call_either : (P : Outcome → Type 0) (cs : Checks) (o : Outcome) (m room : List ℕ)
    → (first_failed cs ≡ 0 → P o) → ((n : ℕ) → first_failed cs ≡ suc n → P (number_only (suc n) m room)) → P (call cs o m room)
call_either P cs o m room f g = go (first_failed cs) refl
  where
    go : (n : ℕ) → first_failed cs ≡ n → P (call cs o m room)
    go zero e = rw (call-done cs o m room e) (f e)
    go (suc n) e = rw (call-refused cs o m room n e) (g n e)

-- what a call does is looked at only where its checks pass
pub call-memory : (P : List ℕ → Type 0) (cs : Checks) (o : Outcome) (m room : List ℕ) → P m → (first_failed cs ≡ 0 → P o.memory) → P (call cs o m room).memory
call-memory P cs o m room p f = call_either (λ r. P r.memory) cs o m room f (λ n e. p)

-- number 0 comes of checks that pass
pub call-passed : (cs : Checks) (o : Outcome) (m room : List ℕ) → (call cs o m room).number ≡ 0 → first_failed cs ≡ 0
call-passed cs o m room =
    call_either (λ r. r.number ≡ 0 → first_failed cs ≡ 0) cs o m room (λ e z. e) (λ n e z. absurd (omega arith))

-- where the check of operations is passed no number is 6, so there is no position to tell
pub unlocated : (p : ℕ) (a b c : Bool) (w m' m room : List ℕ)
    → let o = call (check 1 a (check 8 b (check 7 c passed))) (done w m' room) m room in
    located p o ≡ o
unfolding call first_failed when_passed
unlocated p false b c w m' m room = refl
unlocated p true false c w m' m room = refl
unlocated p true true false w m' m room = refl
unlocated p true true true w m' m room = refl

-- ---- a set

module _ (p : ℕ) (m : List ℕ) (n : ℕ) (v : List ℕ) where
  abbrev after-set : List ℕ
  after-set = store m (place n) (stored p m (place n) v)

  pub set_stores : first_failed (set_checks p m n v) ≡ 0 → set_memory p m n v ≡ after-set
  unfolding set_memory when_passed
  set_stores e = ap (λ (c : ℕ). when_passed c after-set (λ _. m)) e

  pub set_fails : (c : ℕ) → first_failed (set_checks p m n v) ≡ suc c → set_memory p m n v ≡ m
  unfolding set_memory when_passed
  set_fails c e = ap (λ (i : ℕ). when_passed i after-set (λ _. m)) e

  pub set_either : (P : List ℕ → Type 0) → (first_failed (set_checks p m n v) ≡ 0 → P after-set) → P m → P (set_memory p m n v)
  set_either P f q = go (first_failed (set_checks p m n v)) refl
    where
      go : (c : ℕ) → first_failed (set_checks p m n v) ≡ c → P (set_memory p m n v)
      go zero e = rw (set_stores e) (f e)
      go (suc c) e = rw (set_fails c e) q
