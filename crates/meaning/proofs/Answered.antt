-- Law 3: every read and every set, selective reads and deletes of entries among them, is answered exactly once, as value or cause, in list order
-- (RULES 19.4), and with what the rules give.
use Prim.Native.Nat.{ℕ, zero, suc, ◌+◌, ◌≤◌, ◌<◌}
use native.Mathlib.Omega.{arith}
use mathlib.Core.Path.{◌≡◌, refl}
use mathlib.Core.Bool.{Bool, true, false, cond}
use mathlib.Core.List.{List, [], ◌∷◌, ◌++◌}
use lib.ListN.{length, length-take, length-drop}
use lib.Dec.{eqb, leb}
use borrow.Author.Tests.{leb-true, leb-false}
use Rattle.meaning.specs.Octets.{part, be16}
use Rattle.meaning.specs.Checks.{passed, check, first_failed, when_passed}
use Rattle.meaning.specs.Table.{row_at, place, by_controller, entry_count, commit}
use Rattle.meaning.specs.Block.{sums}
use Rattle.meaning.specs.Memory.{present, body, room, store}
use Rattle.meaning.specs.Profile.{listed, spared, on_wire, sendable, cause_absent}
use Rattle.meaning.specs.Operation.{Op, capabilities, read, set, subscribe, unsubscribe, selective_read, selective_subscribe, selective_unsubscribe, delete_entry}
use Rattle.meaning.specs.Step.{Answer, names, value, read_error, update, update_error, silent, shown, read_checks, read_answer, permitted, set_checks, set_answer, stored, set_memory, subscribe_memory, unsubscribe_memory, step, answer, answers}
use Rattle.meaning.specs.Reply.{Records, kinds, no_records, joined, held, failed, record_of, gathered}
use Rattle.meaning.specs.Calls.{records}
use Rattle.meaning.proofs.Lists.{Each, each_append}
use Rattle.meaning.proofs.Tests.{first-passed}
use Rattle.meaning.proofs.Places.{most-small, listed-place}
use Rattle.meaning.proofs.Profiles.{absent_fails}
use Rattle.meaning.proofs.Kept.{Settable}
use Rattle.meaning.proofs.Encode.{Fine}
use Rattle.meaning.proofs.Decode.{GoodHeld, GoodFailed, Good}

-- ---- records with one more in front of its kind

abbrev pub with_names : Records → Records
with_names r = kinds true r.values r.read_errors r.updates r.update_errors r.long_updates

abbrev pub with_value : ℕ → List ℕ → Records → Records
with_value n v r = kinds r.capabilities (held n v ++ r.values) r.read_errors r.updates r.update_errors r.long_updates

abbrev pub with_read_error : ℕ → ℕ → Records → Records
with_read_error n c r = kinds r.capabilities r.values (failed n c ++ r.read_errors) r.updates r.update_errors r.long_updates

abbrev pub with_update : ℕ → List ℕ → Records → Records
with_update n v r = kinds r.capabilities r.values r.read_errors (held n v ++ r.updates) r.update_errors r.long_updates

abbrev pub with_update_error : ℕ → ℕ → Records → Records
with_update_error n c r = kinds r.capabilities r.values r.read_errors r.updates (failed n c ++ r.update_errors) r.long_updates

abbrev pub with_long_update : ℕ → List ℕ → Records → Records
with_long_update n v r = kinds r.capabilities r.values r.read_errors r.updates r.update_errors (held n v ++ r.long_updates)

-- ---- the records that answer a list of operations on a memory: one for each read and each set, selective reads and deletes of entries among
-- them, and whose

-- the memory after a set that succeeds
abbrev pub successor : (p : ℕ) → List ℕ → ℕ → List ℕ → List ℕ
successor p m n v = store m (place n) (stored p m (place n) v)

pub data Answered (p : ℕ) : List ℕ → List Op → Records → Type 0 where
  end : {m : List ℕ} → Answered p m [] no_records
  lists_names : {m : List ℕ} {os : List Op} {r : Records} → Answered p m os r → Answered p m (capabilities ∷ os) (with_names r)
  reads_value : {m : List ℕ} {n : ℕ} {os : List Op} {r : Records} → listed p n ≡ true → present m (place n) ≡ true
      → Answered p m os r → Answered p m (read n ∷ os) (with_value n (shown p m (place n)) r)
  reads_unlisted : {m : List ℕ} {n : ℕ} {os : List Op} {r : Records} → listed p n ≡ false
      → Answered p m os r → Answered p m (read n ∷ os) (with_read_error n 0x01 r)
  reads_absent : {m : List ℕ} {n : ℕ} {os : List Op} {r : Records} → listed p n ≡ true → present m (place n) ≡ false
      → Answered p m os r → Answered p m (read n ∷ os) (with_read_error n (cause_absent p) r)
  sets_short : {m : List ℕ} {n : ℕ} {v : List ℕ} {os : List Op} {r : Records} → Settable p m n v → length v ≤ 255
      → Answered p (successor p m n v) os r → Answered p m (set n v ∷ os) (with_update n v r)
  sets_long : {m : List ℕ} {n : ℕ} {v : List ℕ} {os : List Op} {r : Records} → Settable p m n v → 255 < length v
      → Answered p (successor p m n v) os r → Answered p m (set n v ∷ os) (with_long_update n v r)
  sets_unlisted : {m : List ℕ} {n : ℕ} {v : List ℕ} {os : List Op} {r : Records} → listed p n ≡ false
      → Answered p m os r → Answered p m (set n v ∷ os) (with_update_error n 0x01 r)
  sets_foreign : {m : List ℕ} {n : ℕ} {v : List ℕ} {os : List Op} {r : Records} → listed p n ≡ true → by_controller (row_at (place n)).owner ≡ false
      → Answered p m os r → Answered p m (set n v ∷ os) (with_update_error n 0x6F r)
  sets_too_long : {m : List ℕ} {n : ℕ} {v : List ℕ} {os : List Op} {r : Records} → listed p n ≡ true → by_controller (row_at (place n)).owner ≡ true → sendable p v ≡ false
      → Answered p m os r → Answered p m (set n v ∷ os) (with_update_error n 0x6F r)
  sets_wrong : {m : List ℕ} {n : ℕ} {v : List ℕ} {os : List Op} {r : Records} → listed p n ≡ true → by_controller (row_at (place n)).owner ≡ true → sendable p v ≡ true → permitted p m (place n) v ≡ false
      → Answered p m os r → Answered p m (set n v ∷ os) (with_update_error n 0x02 r)
  subscribes : {m : List ℕ} {n : ℕ} {os : List Op} {r : Records} → Answered p (subscribe_memory p m n) os r → Answered p m (subscribe n ∷ os) r
  unsubscribes : {m : List ℕ} {n : ℕ} {os : List Op} {r : Records} → Answered p (unsubscribe_memory p m n) os r → Answered p m (unsubscribe n ∷ os) r
  reads_selected : {m : List ℕ} {n : ℕ} {v : List ℕ} {os : List Op} {r : Records} → Answered p m os r → Answered p m (selective_read n v ∷ os) (with_read_error n 0x6F r)
  subscribes_selected : {m : List ℕ} {n : ℕ} {v : List ℕ} {os : List Op} {r : Records} → Answered p m os r → Answered p m (selective_subscribe n v ∷ os) r
  unsubscribes_selected : {m : List ℕ} {n : ℕ} {v : List ℕ} {os : List Op} {r : Records} → Answered p m os r → Answered p m (selective_unsubscribe n v ∷ os) r
  deletes_entry : {m : List ℕ} {n : ℕ} {v : List ℕ} {os : List Op} {r : Records} → Answered p m os r → Answered p m (delete_entry n v ∷ os) (with_update_error n 0x6F r)

-- ---- so many reads, so many answers to reads; and so for sets

unfoldable pub reads : List Op → ℕ
reads [] = 0
reads (capabilities ∷ os) = reads os
reads (read n ∷ os) = suc (reads os)
reads (set n v ∷ os) = reads os
reads (subscribe n ∷ os) = reads os
reads (unsubscribe n ∷ os) = reads os
reads (selective_read n v ∷ os) = suc (reads os)
reads (selective_subscribe n v ∷ os) = reads os
reads (selective_unsubscribe n v ∷ os) = reads os
reads (delete_entry n v ∷ os) = reads os

unfoldable pub sets : List Op → ℕ
sets [] = 0
sets (capabilities ∷ os) = sets os
sets (read n ∷ os) = sets os
sets (set n v ∷ os) = suc (sets os)
sets (subscribe n ∷ os) = sets os
sets (unsubscribe n ∷ os) = sets os
sets (selective_read n v ∷ os) = sets os
sets (selective_subscribe n v ∷ os) = sets os
sets (selective_unsubscribe n v ∷ os) = sets os
sets (delete_entry n v ∷ os) = suc (sets os)

pub record Counts (os : List Op) (r : Records) : Type 0 where
  pub read_answers : length r.values + length r.read_errors ≡ reads os
  pub set_answers : length r.updates + length r.update_errors + length r.long_updates ≡ sets os

pub answered_counts : (p : ℕ) → {m : List ℕ} {os : List Op} {r : Records} → Answered p m os r → Counts os r
unfolding reads sets
answered_counts p end = record { read_answers = refl; set_answers = refl }
answered_counts p (lists_names a) = let c = answered_counts p a in record { read_answers = c.read_answers; set_answers = c.set_answers }
answered_counts p (reads_value e f a) = let c = answered_counts p a in record { read_answers = omega arith; set_answers = c.set_answers }
answered_counts p (reads_unlisted e a) = let c = answered_counts p a in record { read_answers = omega arith; set_answers = c.set_answers }
answered_counts p (reads_absent e f a) = let c = answered_counts p a in record { read_answers = omega arith; set_answers = c.set_answers }
answered_counts p (sets_short e f a) = let c = answered_counts p a in record { read_answers = c.read_answers; set_answers = omega arith }
answered_counts p (sets_long e f a) = let c = answered_counts p a in record { read_answers = c.read_answers; set_answers = omega arith }
answered_counts p (sets_unlisted e a) = let c = answered_counts p a in record { read_answers = c.read_answers; set_answers = omega arith }
answered_counts p (sets_foreign e f a) = let c = answered_counts p a in record { read_answers = c.read_answers; set_answers = omega arith }
answered_counts p (sets_too_long e f g a) = let c = answered_counts p a in record { read_answers = c.read_answers; set_answers = omega arith }
answered_counts p (sets_wrong e f h g a) = let c = answered_counts p a in record { read_answers = c.read_answers; set_answers = omega arith }
answered_counts p (subscribes a) = let c = answered_counts p a in record { read_answers = c.read_answers; set_answers = c.set_answers }
answered_counts p (unsubscribes a) = let c = answered_counts p a in record { read_answers = c.read_answers; set_answers = c.set_answers }
answered_counts p (reads_selected a) = let c = answered_counts p a in record { read_answers = omega arith; set_answers = c.set_answers }
answered_counts p (subscribes_selected a) = let c = answered_counts p a in record { read_answers = c.read_answers; set_answers = c.set_answers }
answered_counts p (unsubscribes_selected a) = let c = answered_counts p a in record { read_answers = c.read_answers; set_answers = c.set_answers }
answered_counts p (deletes_entry a) = let c = answered_counts p a in record { read_answers = c.read_answers; set_answers = omega arith }

-- ---- the records of a run are such

read-answered : (p : ℕ) (m : List ℕ) (n : ℕ) (os : List Op) (r : Records) → Answered p m os r → Answered p m (read n ∷ os) (joined (record_of (read_answer p m n)) r)
unfolding read_answer read_checks first_failed when_passed record_of
read-answered p m n os r a = go (listed p n) refl (present m (place n)) refl
  where
    go : (b : Bool) → listed p n ≡ b → (d : Bool) → present m (place n) ≡ d
        → Answered p m (read n ∷ os) (joined (record_of (when_passed (first_failed (check 0x01 b (check (cause_absent p) d passed))) (value n (shown p m (place n))) (read_error n))) r)
    go true e true f = reads_value e f a
    go true e false f = rw (absent_fails p (value n (shown p m (place n))) (read_error n)) (reads_absent e f a)
    go false e d f = reads_unlisted e a

module _ (p : ℕ) (m : List ℕ) (n : ℕ) (v : List ℕ) (os : List Op) (r : List ℕ → Records) (a : (m' : List ℕ) → Answered p m' os (r m')) where
  abbrev After : ℕ → Type 0
  After c =
      Answered p m (set n v ∷ os)
      (joined (record_of (when_passed c (update n v) (update_error n))) (r (when_passed c (successor p m n v) (λ _. m))))

  set-done : Settable p m n v → After 0
  unfolding when_passed record_of
  set-done s = go (leb (length v) 255) refl
    where
      go : (b : Bool) → leb (length v) 255 ≡ b
          → Answered p m (set n v ∷ os)
          (joined (cond b (kinds false [] [] (held n v) [] []) (kinds false [] [] [] [] (held n v))) (r (successor p m n v)))
      go true e = sets_short s (leb-true _ _ e) (a (successor p m n v))
      go false e = sets_long s (leb-false _ _ e) (a (successor p m n v))

  set-answered : After (first_failed (set_checks p m n v))
  unfolding set_checks first_failed when_passed record_of
  set-answered = go (listed p n) refl (by_controller (row_at (place n)).owner) refl (sendable p v) refl (permitted p m (place n) v) refl
    where
      go : (b : Bool) → listed p n ≡ b → (c : Bool) → by_controller (row_at (place n)).owner ≡ c → (t : Bool) → sendable p v ≡ t → (d : Bool) → permitted p m (place n) v ≡ d
          → After (first_failed (check 0x01 b (check 0x6F c (check 0x6F t (check 0x02 d passed)))))
      go true e true f true h true g = set-done (record { is_listed = e; controls = f; answerable = h; allowed = g })
      go true e true f true h false g = sets_wrong e f h g (a m)
      go true e true f false h d g = sets_too_long e f h (a m)
      go true e false f t h d g = sets_foreign e f (a m)
      go false e c f t h d g = sets_unlisted e (a m)

pub answered : (p : ℕ) (m : List ℕ) (os : List Op) → Answered p m os (records p m os)
unfolding records gathered answers answer step record_of set_answer set_memory
answered p m [] = end
answered p m (capabilities ∷ os) = lists_names (answered p m os)
answered p m (read n ∷ os) = read-answered p m n os (records p m os) (answered p m os)
answered p m (set n v ∷ os) = set-answered p m n v os (λ m'. records p m' os) (λ m'. answered p m' os)
answered p m (subscribe n ∷ os) = subscribes (answered p (subscribe_memory p m n) os)
answered p m (unsubscribe n ∷ os) = unsubscribes (answered p (unsubscribe_memory p m n) os)
answered p m (selective_read n v ∷ os) = reads_selected (answered p m os)
answered p m (selective_subscribe n v ∷ os) = subscribes_selected (answered p m os)
answered p m (selective_unsubscribe n v ∷ os) = unsubscribes_selected (answered p m os)
answered p m (delete_entry n v ∷ os) = deletes_entry (answered p m os)

-- ---- every record of a run can be read back: its name and its length have two octets each

abbrev pub GoodAnswer : Answer → Type 0
GoodAnswer names = Unit {0}
GoodAnswer (value n v) = (n < 65536) × (length v < 65536)
GoodAnswer (read_error n c) = n < 65536
GoodAnswer (update n v) = (n < 65536) × (length v < 65536)
GoodAnswer (update_error n c) = n < 65536
GoodAnswer silent = Unit {0}

pub body-length : (m : List ℕ) (k : ℕ) → length (body m k) ≤ (row_at k).most
unfolding body room part
body-length m k = simp length-take (omega arith)

sums-length : (s : List ℕ) → length (sums s) ≡ 4
unfolding sums be16
sums-length s = refl

shown-length : (p : ℕ) (m : List ℕ) (k : ℕ) → k < entry_count → length (shown p m k) < 65536
unfolding shown
shown-length p m k h = go (eqb k commit)
  where
    go : (b : Bool) → length (cond b (sums (body m commit)) (on_wire p k (body m k))) < 65536
    go true = omega (arith, sums-length (body m commit))
    go false = unfold on_wire in omega (arith, length-drop (spared p k) (body m k), body-length m k, most-small k h)

passed_good : (P : Answer → Type 0) (c : ℕ) (a : Answer) (f : ℕ → Answer) → (c ≡ 0 → P a) → ((k : ℕ) → P (f k)) → P (when_passed c a f)
unfolding when_passed
passed_good P zero a f p q = p refl
passed_good P (suc c) a f p q = q (suc c)

answer_good : (p : ℕ) (m : List ℕ) (o : Op) → Fine p o → GoodAnswer (answer p m o)
unfolding answer read_answer set_answer read_checks
answer_good p m capabilities f = tt
answer_good p m (read n) f =
    passed_good GoodAnswer (first_failed (read_checks p m n)) (value n (shown p m (place n))) (read_error n)
    (λ e. (f, shown-length p m (place n) (listed-place p n (first-passed 0 _ _ e).0)))
    (λ k. f)
answer_good p m (set n v) f = passed_good GoodAnswer (first_failed (set_checks p m n v)) (update n v) (update_error n) (λ e. f) (λ k. f.0)
answer_good p m (subscribe n) f = tt
answer_good p m (unsubscribe n) f = tt
answer_good p m (selective_read n v) f = f.0
answer_good p m (selective_subscribe n v) f = tt
answer_good p m (selective_unsubscribe n v) f = tt
answer_good p m (delete_entry n v) f = f.0

pub good_joined : (r s : Records) → Good r → Good s → Good (joined r s)
good_joined r s f g =
    record {
      values = each_append GoodHeld r.values s.values f.values g.values;
      read_errors = each_append GoodFailed r.read_errors s.read_errors f.read_errors g.read_errors;
      updates = each_append GoodHeld r.updates s.updates f.updates g.updates;
      update_errors = each_append GoodFailed r.update_errors s.update_errors f.update_errors g.update_errors;
      long_updates = each_append GoodHeld r.long_updates s.long_updates f.long_updates g.long_updates;
    }

pub good_record : (a : Answer) → GoodAnswer a → Good (record_of a)
unfolding record_of
good_record names g = record { values = tt; read_errors = tt; updates = tt; update_errors = tt; long_updates = tt }
good_record (value n v) g = record { values = (g, tt); read_errors = tt; updates = tt; update_errors = tt; long_updates = tt }
good_record (read_error n c) g = record { values = tt; read_errors = (g, tt); updates = tt; update_errors = tt; long_updates = tt }
good_record (update_error n c) g = record { values = tt; read_errors = tt; updates = tt; update_errors = (g, tt); long_updates = tt }
good_record silent g = record { values = tt; read_errors = tt; updates = tt; update_errors = tt; long_updates = tt }
good_record (update n v) g = go (leb (length v) 255)
  where
    go : (b : Bool) → Good (cond b (kinds false [] [] (held n v) [] []) (kinds false [] [] [] [] (held n v)))
    go true = record { values = tt; read_errors = tt; updates = (g, tt); update_errors = tt; long_updates = tt }
    go false = record { values = tt; read_errors = tt; updates = tt; update_errors = tt; long_updates = (g, tt) }

pub records_good : (p : ℕ) (m : List ℕ) (os : List Op) → Each (Fine p) os → Good (records p m os)
unfolding records gathered answers
records_good p m [] f = record { values = tt; read_errors = tt; updates = tt; update_errors = tt; long_updates = tt }
records_good p m (o ∷ os) f =
    good_joined (record_of (answer p m o)) (records p (step p m o) os) (good_record (answer p m o) (answer_good p m o f.0))
    (records_good p (step p m o) os f.1)
