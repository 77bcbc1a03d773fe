-- What is known of the running block's sums, before and after an operation.
use Prim.Native.Nat.{ℕ}
use native.Mathlib.Omega.{arith}
use mathlib.Core.Path.{◌≡◌, refl, ap}
use mathlib.Core.Logic.{◌≢◌, ⊎_elim}
use mathlib.Core.Bool.{Bool, true, false, cond}
use mathlib.Core.List.{List}
use lib.Dec.{eqb}
use borrow.Author.Tests.{eqb-false}
use Rattle.meaning.specs.Octets.{part}
use Rattle.meaning.specs.Table.{commit}
use Rattle.meaning.specs.Memory.{body, sound}
use Rattle.meaning.specs.Operation as operation
use Rattle.meaning.specs.Operation.{capabilities, read, set, subscribe, unsubscribe, selective_read, selective_subscribe, selective_unsubscribe, delete_entry}
use Rattle.meaning.specs.Step.{step}
use Rattle.meaning.proofs.Running.{step-running}
use Rattle.std.specs.Prelude.{Option, Some, None}
use Rattle.operation.specs.declared.NamedValue.{NamedValue}
use Rattle.operation.specs.declared.Op.{Op}
use Rattle.operation.specs.declared.Op.TheVariants.{Capabilities, Read, Set, Subscribe, Unsubscribe, SelectiveRead, SelectiveSubscribe, SelectiveUnsubscribe, DeleteEntry}
use Rattle.operation.specs.Handing.{op_of}
use Rattle.command.specs.declared.Answer.{Answer}
use Rattle.command.specs.declared.Answer.TheVariants.{Names, Value, ReadError, Update, UpdateError, Silent}
use Rattle.schedule.specs.declared.Sums.{Sums}
use Rattle.section.specs.Knowing.{running_sums, Knows, kept_after, learnt_from}

-- the same block runs, so the same is known
knows_same : (m m' : List ℕ) (k : Option Sums) → body m' commit ≡ body m commit → Knows m k → Knows m' k
unfolding running_sums
knows_same m m' None e h = tt
knows_same m m' (Some s) e h = rw e h

-- the name that an operation sets; 0 where it sets none
abbrev set_name : operation.Op → ℕ
set_name capabilities = 0
set_name (read n) = 0
set_name (set n v) = n
set_name (subscribe n) = 0
set_name (unsubscribe n) = 0
set_name (selective_read n v) = 0
set_name (selective_subscribe n v) = 0
set_name (selective_unsubscribe n v) = 0
set_name (delete_entry n v) = 0

-- no other operation than a set of 8001 changes the running block
knows_step : (p : ℕ) (m : List ℕ) (o : operation.Op) (k : Option Sums) → sound m ≡ true → set_name o ≢ 0x8001 → Knows m k → Knows (step p m o) k
knows_step p m o k s ne h =
    ⊎_elim (λ r. knows_same m (step p m o) k r.block h) (λ r. absurd (ne (ap set_name r.1))) (step-running p m o s)

pub kept_knows : (p : ℕ) (m s : List ℕ) (o : Op) (k : Option Sums) → sound m ≡ true → Knows m k → Knows (step p m (op_of s o)) (kept_after o k)
unfolding op_of kept_after
kept_knows p m s Capabilities k d h = knows_step p m capabilities k d (λ e. omega (arith, e)) h
kept_knows p m s (Read n) k d h = knows_step p m (read n) k d (λ e. omega (arith, e)) h
kept_knows p m s (Set v) k d h = go (eqb v.name 0x8001) refl
  where
    go : (b : Bool) → eqb v.name 0x8001 ≡ b → Knows (step p m (set v.name (part s v.from v.size))) (cond b None k)
    go true e = tt
    go false e = knows_step p m (set v.name (part s v.from v.size)) k d (eqb-false v.name 0x8001 e) h
kept_knows p m s (Subscribe n) k d h = knows_step p m (subscribe n) k d (λ e. omega (arith, e)) h
kept_knows p m s (Unsubscribe n) k d h = knows_step p m (unsubscribe n) k d (λ e. omega (arith, e)) h
kept_knows p m s (SelectiveRead v) k d h = knows_step p m (selective_read v.name (part s v.from v.size)) k d (λ e. omega (arith, e)) h
kept_knows p m s (SelectiveSubscribe v) k d h = knows_step p m (selective_subscribe v.name (part s v.from v.size)) k d (λ e. omega (arith, e)) h
kept_knows p m s (SelectiveUnsubscribe v) k d h = knows_step p m (selective_unsubscribe v.name (part s v.from v.size)) k d (λ e. omega (arith, e)) h
kept_knows p m s (DeleteEntry v) k d h = knows_step p m (delete_entry v.name (part s v.from v.size)) k d (λ e. omega (arith, e)) h

pub learnt_knows : (m : List ℕ) (a : Answer) (k : Option Sums) → Knows m k → Knows m (learnt_from m a k)
unfolding learnt_from
learnt_knows m Names k h = h
learnt_knows m (Value p) k h = go (eqb p commit)
  where
    go : (b : Bool) → Knows m (cond b (Some (running_sums m)) k)
    go true = refl
    go false = h
learnt_knows m (ReadError c) k h = h
learnt_knows m Update k h = h
learnt_knows m (UpdateError c) k h = h
learnt_knows m Silent k h = h

-- ---- what is kept and learnt, by the code's branches

pub kept_other : (o : Op) (k : Option Sums) → ((v : NamedValue) → o ≡ Set v → ⊥) → k ≡ kept_after o k
unfolding kept_after
kept_other Capabilities k t = refl
kept_other (Read n) k t = refl
kept_other (Set v) k t = absurd (t v refl)
kept_other (Subscribe n) k t = refl
kept_other (Unsubscribe n) k t = refl
kept_other (SelectiveRead v) k t = refl
kept_other (SelectiveSubscribe v) k t = refl
kept_other (SelectiveUnsubscribe v) k t = refl
kept_other (DeleteEntry v) k t = refl

pub learnt_other : (m : List ℕ) (a : Answer) (k : Option Sums) → ((p : ℕ) → a ≡ Value p → ⊥) → k ≡ learnt_from m a k
unfolding learnt_from
learnt_other m Names k t = refl
learnt_other m (Value p) k t = absurd (t p refl)
learnt_other m (ReadError c) k t = refl
learnt_other m Update k t = refl
learnt_other m (UpdateError c) k t = refl
learnt_other m Silent k t = refl
