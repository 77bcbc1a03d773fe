-- Law 4: the running block changes only by a set of 8001 that meets the conditions of RULES 11.14 to 11.17, and becomes the block of
-- the four values. No other operation and no other call touches it.
use Prim.Native.Nat.{ℕ, suc, ◌+◌, ◌≤◌, ◌<◌}
use native.Mathlib.Omega.{arith}
use native.Mathlib.Decide.{ℕ_discrete}
use mathlib.Core.Path.{◌≡◌, refl, sym, ap, ◌∙◌}
use mathlib.Core.Logic.{◌≢◌, ◌⊎◌, inl, inr}
use mathlib.Core.Bool.{Bool, true, false, ◌&&◌, ◌||◌, not, cond, false≢true}
use mathlib.Core.List.{List, [], ◌∷◌, ◌++◌}
use lib.ListN.{length, get_or}
use lib.Dec.{eqb}
use borrow.Author.Tests.{eqb-true, eq-eqb}
use Rattle.meaning.specs.Octets.{octet, nonempty}
use Rattle.meaning.specs.Checks.{first_failed, when_passed}
use Rattle.meaning.specs.Table.{Row, nobody, row, row_at, rows, place_in, place, by_controller, by_port, free, entry_count, commit}
use Rattle.meaning.specs.Block.{permits}
use Rattle.meaning.specs.Memory.{present, subscribed, pending, in_flight, body, store, set_marks, set_timer, waiting, sound, expiries}
use Rattle.meaning.specs.Profile.{listed, is_release16, lists, sendable}
use Rattle.meaning.specs.Operation.{Op, capabilities, read, set, subscribe, unsubscribe, selective_read, selective_subscribe, selective_unsubscribe, delete_entry, break_of}
use Rattle.meaning.specs.Step.{block, commits, permitted, set_checks, stored, set_memory, set_answer, subscribe_memory, unsubscribe_memory, step, answer, update, after}
use Rattle.meaning.specs.Calls.{Outcome, done, is_command, operations, ops_of, carried_out, acknowledged, handled, message_checks, located, message, differs, local_memory, local_checks, local_value, Moment, when_sent, when_acknowledged, when_given_up, turned, build_checks, build, expired, expiry_checks, expiry}
use Rattle.meaning.proofs.Tests.{first-passed, all_passing, implies_of}
use Rattle.meaning.proofs.Places.{listed-place}
use Rattle.meaning.proofs.Checked.{call_either, call-memory, set_stores, set_either}
use Rattle.meaning.proofs.Sound.{Sound, opened, put-present-same, put-present_other, put-body-same, put-body_other, present-set_timer, body-set_timer}
use Rattle.meaning.proofs.Kept.{permits-most, stored-permitted, Settable, settable, step-sound, Local, local_opened, local_held, commit_not_port, idled, acknowledged_waits, waits_sound, waits_now, expired_either}
use Rattle.meaning.proofs.Turned.{present-set_marks, body-set_marks, turned_to}
use Rattle.meaning.proofs.Commit.{Commits, commits_spelt, spelt_commits}

-- ---- the statement

-- the same block runs, or none does
pub record SameRunning (m m' : List ℕ) : Type 0 where
  pub runs : present m' commit ≡ present m commit
  pub block : body m' commit ≡ body m commit

-- this block runs
pub record Runs (m b : List ℕ) : Type 0 where
  pub runs : present m commit ≡ true
  pub block : body m commit ≡ b

same-running : (m : List ℕ) → SameRunning m m
same-running m = record { runs = refl; block = refl }

same_then : {a b c : List ℕ} → SameRunning a b → SameRunning b c → SameRunning a c
same_then f g = record { runs = g.runs ∙ f.runs; block = g.block ∙ f.block }

-- the block that runs is still the one before, or it comes of a set of 8001 among the operations that met every condition
-- on the memory before it, and it is the block of the four values there
pub data RunningBy (p : ℕ) (m : List ℕ) (os : List Op) : Type 0 where
  kept : SameRunning m (after p m os) → RunningBy p m os
  committed : (before : List Op) (v : List ℕ) (later : List Op) → os ≡ before ++ (set 0x8001 v ∷ later) → Commits (after p m before) v
      → Runs (after p m os) (block (after p m before)) → RunningBy p m os

-- ---- names and places

placed : (rs : List Row) (d : Row) (n : ℕ) → place_in rs n < length rs → (get_or rs (place_in rs n) d).name ≡ n
unfolding place_in
placed [] d n h = absurd (omega arith)
placed (r ∷ rs) d n h = go (eqb r.name n) refl h (placed rs d n)
  where
    go : (b : Bool) → eqb r.name n ≡ b → cond b 0 (suc (place_in rs n)) < suc (length rs)
        → (place_in rs n < length rs → (get_or rs (place_in rs n) d).name ≡ n) → (get_or (r ∷ rs) (cond b 0 (suc (place_in rs n))) d).name ≡ n
    go true e l ih = eqb-true _ _ e
    go false e l ih = ih (omega arith)

placed_most : (rs : List Row) (n : ℕ) → place_in rs n ≤ length rs
unfolding place_in
placed_most [] n = omega arith
placed_most (r ∷ rs) n = go (eqb r.name n) (placed_most rs n)
  where
    go : (b : Bool) → place_in rs n ≤ length rs → cond b 0 (suc (place_in rs n)) ≤ suc (length rs)
    go true h = omega arith
    go false h = omega arith

length-rows : length rows ≡ entry_count
unfolding rows
length-rows = refl

pub place-name : (n : ℕ) → place n < entry_count → (row_at (place n)).name ≡ n
unfolding row_at place
place-name n e = placed rows (row 0 0 0 nobody free) n (rw length-rows e)

-- a name of no entry has the place behind the last
pub place_unlisted : (n : ℕ) → entry_count ≤ place n → place n ≡ 19
unfolding place
place_unlisted n e =
    let most : place_in rows n ≤ length rows = placed_most rows n in
    omega (arith, e, length-rows, most)

commit-name : (n : ℕ) → place n < entry_count → place n ≡ commit → n ≡ 0x8001
unfolding row_at rows
commit-name n e p = sym (place-name n e) ∙ ap (λ (k : ℕ). (row_at k).name) p

pub commit-listed : (p : ℕ) → (place 0x8001 ≡ commit) × (listed p 0x8001 ≡ true) × (by_controller (row_at commit).owner ≡ true)
unfolding listed lists place place_in rows row_at by_controller
commit-listed p = (refl, ap not (and-false (is_release16 p)), refl)
  where
    and-false : (b : Bool) → (b && false) ≡ false
    and-false true = refl
    and-false false = refl

-- ---- one operation

store_same : (m : List ℕ) (k : ℕ) (v : List ℕ) → Sound m → k < entry_count → length v ≤ (row_at k).most → k ≢ commit → SameRunning m (store m k v)
unfolding store
store_same m k v S hk hv ne =
    record {
      runs = put-present_other m k true (subscribed m k) (pending m k) (in_flight m k) v S hk hv commit (omega arith) (λ e. ne (sym e));
      block = put-body_other m k true (subscribed m k) (pending m k) (in_flight m k) v S hk hv commit (omega arith) (λ e. ne (sym e));
    }

store_runs : (m v : List ℕ) → Sound m → length v ≤ (row_at commit).most → Runs (store m commit v) v
unfolding store
store_runs m v S hv =
    record {
      runs = put-present-same m commit true (subscribed m commit) (pending m commit) (in_flight m commit) v S (omega arith) hv;
      block = put-body-same m commit true (subscribed m commit) (pending m commit) (in_flight m commit) v S (omega arith) hv;
    }

set_marks-same : (m : List ℕ) (k : ℕ) (s q i : Bool) → Sound m → k < entry_count → SameRunning m (set_marks m k s q i)
set_marks-same m k s q i S hk =
    record { runs = present-set_marks m k s q i S hk commit (omega arith); block = body-set_marks m k s q i S hk commit (omega arith) }

timer-same : (m : List ℕ) (w n : ℕ) → Sound m → SameRunning m (set_timer m w n)
timer-same m w n S =
    record { runs = present-set_timer m w n S commit (omega arith); block = body-set_timer m w n S commit (omega arith) }

marks_same : (p : ℕ) (m : List ℕ) (n : ℕ) (m' : List ℕ) → (listed p n ≡ true → SameRunning m m') → SameRunning m (cond (listed p n) m' m)
marks_same p m n m' f = go (listed p n) refl
  where
    go : (b : Bool) → listed p n ≡ b → SameRunning m (cond b m' m)
    go true e = f e
    go false e = same-running m

-- what a set does to the running block, m' the memory after it: nothing, or it is a commit
abbrev SetThen : List ℕ → ℕ → List ℕ → List ℕ → Type 0
SetThen m n v m' = SameRunning m m' ⊎ ((n ≡ 0x8001) × Commits m v × Runs m' (block m))

set_succeeded : (p : ℕ) (m : List ℕ) (n : ℕ) (v : List ℕ) → Sound m → Settable p m n v → Dec (place n ≡ commit)
    → SetThen m n v (store m (place n) (stored p m (place n) v))
unfolding permitted stored
set_succeeded p m n v S t (yes q) =
    let c : commits m v ≡ true = simp (eq-eqb _ _ q) at t.allowed in
    let h : permits (row_at commit) (block m) ≡ true = simp q at (stored-permitted p m (place n) v t.allowed).0 in
    inr (
      commit-name n (listed-place p n t.is_listed) q,
      commits_spelt m v S c,
      simp q (store_runs m (block m) S (permits-most (row_at commit) (block m) h)),
    )
set_succeeded p m n v S t (no ne) =
    let h = permits-most (row_at (place n)) _ (stored-permitted p m (place n) v t.allowed).0 in
    inl (store_same m (place n) (stored p m (place n) v) S (listed-place p n t.is_listed) h ne)

set-running : (p : ℕ) (m : List ℕ) (n : ℕ) (v : List ℕ) → Sound m → SetThen m n v (set_memory p m n v)
set-running p m n v S =
    set_either p m n v (SetThen m n v)
    (λ e. set_succeeded p m n v S (settable p m n v e) (ℕ_discrete (place n) commit))
    (inl (same-running m))

-- no other operation touches it
pub step-running : (p : ℕ) (m : List ℕ) (o : Op) → sound m ≡ true
    → SameRunning m (step p m o) ⊎ ((v : List ℕ) × (o ≡ set 0x8001 v) × Commits m v × Runs (step p m o) (block m))
unfolding step subscribe_memory unsubscribe_memory
step-running p m capabilities s = inl (same-running m)
step-running p m (read n) s = inl (same-running m)
step-running p m (set n v) s = go (set-running p m n v (opened m s))
  where
    go : SetThen m n v (set_memory p m n v)
        → SameRunning m (set_memory p m n v) ⊎ ((w : List ℕ) × (set n v ≡ set 0x8001 w) × Commits m w × Runs (set_memory p m n v) (block m))
    go (inl k) = inl k
    go (inr k) = inr (v, ap (λ (i : ℕ). set i v) k.0, k.1, k.2)
step-running p m (subscribe n) s =
    inl (marks_same p m n _ (λ e. set_marks-same m (place n) true (pending m (place n)) (in_flight m (place n)) (opened m s) (listed-place p n e)))
step-running p m (unsubscribe n) s =
    inl (marks_same p m n _ (λ e. set_marks-same m (place n) false false false (opened m s) (listed-place p n e)))
step-running p m (selective_read n v) s = inl (same-running m)
step-running p m (selective_subscribe n v) s = inl (same-running m)
step-running p m (selective_unsubscribe n v) s = inl (same-running m)
step-running p m (delete_entry n v) s = inl (same-running m)

-- four octets are short enough for each profile
four_sendable : (p : ℕ) (v : List ℕ) → length v ≡ 4 → sendable p v ≡ true
unfolding sendable
four_sendable p v h = implies_of _ _ (λ _. rw h)

-- a set of 8001 that meets every condition is carried out
commit_passes : (p : ℕ) (m v : List ℕ) → Sound m → Commits m v → first_failed (set_checks p m 0x8001 v) ≡ 0
unfolding set_checks permitted
commit_passes p m v S c =
    all_passing (set_checks p m 0x8001 v) (rw (commit-listed p).0 ((commit-listed p).1, ((commit-listed p).2, (four_sendable p v c.four_octets, (spelt_commits m v S c, tt)))))

pub commit_runs : (p : ℕ) (m v : List ℕ) → sound m ≡ true → Commits m v → Runs (step p m (set 0x8001 v)) (block m)
unfolding step stored permitted
commit_runs p m v s c =
    let S = opened m s in
    let h : permits (row_at commit) (block m) ≡ true = (stored-permitted p m commit v (spelt_commits m v S c)).0 in
    rw (set_stores p m 0x8001 v (commit_passes p m v S c), (commit-listed p).0) (store_runs m (block m) S (permits-most (row_at commit) (block m) h))

pub commit-answered : (p : ℕ) (m v : List ℕ) → sound m ≡ true → Commits m v → answer p m (set 0x8001 v) ≡ update 0x8001 v
unfolding answer set_answer when_passed
commit-answered p m v s c = rw (commit_passes p m v (opened m s) c)

-- ---- a list of operations

run_one : (p : ℕ) (m : List ℕ) (o : Op) (os : List Op)
    → SameRunning m (step p m o) ⊎ ((v : List ℕ) × (o ≡ set 0x8001 v) × Commits m v × Runs (step p m o) (block m))
    → RunningBy p (step p m o) os → RunningBy p m (o ∷ os)
unfolding after
run_one p m o os d (committed before v later e c r) = committed (o ∷ before) v later (ap {B = List Op} (λ l. o ∷ l) e) c r
run_one p m o os (inl k) (kept l) = kept (same_then k l)
run_one p m o os (inr k) (kept l) =
    committed [] k.0 os (ap {B = List Op} (λ q. q ∷ os) k.1) k.2
    record { runs = l.runs ∙ k.3.runs; block = l.block ∙ k.3.block }

pub running-after : (p : ℕ) (m : List ℕ) (os : List Op) → sound m ≡ true → RunningBy p m os
unfolding after
running-after p m [] s = kept (same-running m)
running-after p m (o ∷ os) s = run_one p m o os (step-running p m o s) (running-after p (step p m o) os (step-sound p m o s))

-- ---- the calls

-- marks turned, and the timer
turned_same : (t : Moment) (m : List ℕ) → sound m ≡ true → waiting m ≡ true → SameRunning m (turned t entry_count m)
turned_same t m s w =
    let T = turned_to t entry_count m (omega arith) s w in
    record { runs = T.presences commit (omega arith); block = T.values commit (omega arith) }

idled_same : (t : Moment) (m : List ℕ) → sound m ≡ true → waiting m ≡ true → SameRunning m (idled t m)
idled_same t m s w =
    let c = turned t entry_count m in
    same_then (turned_same t m s w) (timer-same c 0 0 (opened c (turned_to t entry_count m (omega arith) s w).is_sound))

-- a message: nothing, unless it is a command that is carried out: type 01, number 0
pub record CommandRuns (p : ℕ) (m s : List ℕ) (o : Outcome) : Type 0 where
  pub type : octet s 0 ≡ 1
  pub number : o.number ≡ 0
  pub memory : o.memory ≡ after p m (ops_of p s)
  pub running : RunningBy p m (ops_of p s)

pub message-running : (p : ℕ) (m s room : List ℕ) → sound m ≡ true → SameRunning m (message p m s room).memory ⊎ CommandRuns p m s (message p m s room)
unfolding message handled carried_out acknowledged
message-running p m s room h =
    call_either (λ o. SameRunning m o.memory ⊎ CommandRuns p m s (located (break_of p (operations s)) o)) (message_checks p m s (length room)) _ m room
    (λ e. go e (is_command s) refl)
    (λ n e. inl (same-running m))
  where
    go : first_failed (message_checks p m s (length room)) ≡ 0 → (b : Bool) → is_command s ≡ b
        → let d = cond b (carried_out p m (ops_of p s)) (acknowledged m) in
        SameRunning m d.memory ⊎ CommandRuns p m s (done d.reply d.memory room)
    go e true c = inr (record { type = unfold is_command in eqb-true _ _ c; number = refl; memory = refl; running = running-after p m (ops_of p s) h })
    go e false c = inl (idled_same when_acknowledged m h (acknowledged_waits p m s room e c))

local_same : (m : List ℕ) (n : ℕ) (v : List ℕ) → Sound m → Local n v → SameRunning m (local_memory m (place n) v)
unfolding local_memory
local_same m n v S l =
    let k = place n in
    let hk = l.in_table in
    let hv = (local_held (row_at k) v l.allowed).1 in
    let ne : commit ≢ k = λ e. false≢true (sym commit_not_port ∙ ap (λ (j : ℕ). by_port (row_at j).owner) e ∙ l.by_the_port) in
    let q = pending m k || (subscribed m k && differs m k v) in
    record {
      runs = put-present_other m k (nonempty v) (subscribed m k) q (in_flight m k) v S hk hv commit (omega arith) ne;
      block = put-body_other m k (nonempty v) (subscribed m k) q (in_flight m k) v S hk hv commit (omega arith) ne;
    }

pub local_value-running : (p : ℕ) (m : List ℕ) (n : ℕ) (v : List ℕ) → sound m ≡ true → SameRunning m (local_value p m n v).memory
unfolding local_value local_checks
local_value-running p m n v s =
    call-memory (SameRunning m) (local_checks p m n v) _ m [] (same-running m)
    (λ e. local_same m n v (opened m s) (local_opened n v (first-passed 11 _ _ (first-passed 0 _ _ e).1).0))

pub build-running : (p : ℕ) (m room : List ℕ) → sound m ≡ true → SameRunning m (build p m room).memory
unfolding build
build-running p m room s =
    call-memory (SameRunning m) (build_checks p m (length room)) _ m room (same-running m)
    (λ e. same_then (timer-same m 1 0 (opened m s)) (turned_same when_sent (set_timer m 1 0) (waits_sound m 0 s (omega arith)) (waits_now m 0 (opened m s))))

pub expiry-running : (p : ℕ) (m : List ℕ) → sound m ≡ true → SameRunning m (expiry p m).memory
unfolding expiry expiry_checks
expiry-running p m s =
    call-memory (SameRunning m) (expiry_checks p m) (expired m) m [] (same-running m)
    (λ e.
    expired_either (λ o. SameRunning m o.memory) m (λ h. timer-same m 1 (expiries m + 1) (opened m s))
    (idled_same when_given_up m s (first-passed 7 _ _ (first-passed 0 _ _ e).1).0))
