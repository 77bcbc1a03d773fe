-- What was set or given is there afterwards and is read back, and of every other entry presence and value are as they were.
use Prim.Native.Nat.{ℕ, ◌<◌}
use mathlib.Core.Path.{◌≡◌, refl}
use mathlib.Core.Logic.{◌≢◌}
use mathlib.Core.Bool.{Bool, true, ◌||◌, ◌&&◌}
use mathlib.Core.List.{List}
use lib.ListN.{drop}
use borrow.Author.Tests.{ne_eqb}
use Rattle.meaning.specs.Octets.{part, nonempty}
use Rattle.meaning.specs.Checks.{first_failed, when_passed}
use Rattle.meaning.specs.Table.{row_at, room_at, place, entry_count, commit}
use Rattle.meaning.specs.Block.{sums}
use Rattle.meaning.specs.Memory.{present, subscribed, pending, in_flight, body, store, sound}
use Rattle.meaning.specs.Profile.{listed, in_memory, spared, on_wire}
use Rattle.meaning.specs.Operation.{capabilities, read, set}
use Rattle.meaning.specs.Step.{value, shown, read_checks, read_answer, set_checks, stored, step, answer}
use Rattle.meaning.specs.Calls.{differs, local_memory}
use Rattle.meaning.proofs.Places.{listed-place}
use Rattle.meaning.proofs.Profiles.{wire_memory}
use Rattle.meaning.proofs.Sound.{opened, put-present-same, put-present_other, put-body-same, put-body_other}
use Rattle.meaning.proofs.Spelt.{length_at, body_spelt}
use Rattle.meaning.proofs.Checked.{set_stores}
use Rattle.meaning.proofs.Kept.{permits-most, stored-permitted, settable, Local, local_held}
use Rattle.meaning.proofs.Running.{commit-listed}

-- this value is there, and of every other entry presence and value are as they were
pub record Holds (m : List ℕ) (k : ℕ) (p : Bool) (v m' : List ℕ) : Type 0 where
  pub presence : present m' k ≡ p
  pub value : body m' k ≡ v
  pub others : (j : ℕ) → j < entry_count → j ≢ k → (present m' j ≡ present m j) × (body m' j ≡ body m j)

pub set_leaves : (p : ℕ) (m : List ℕ) (n : ℕ) (v : List ℕ) → sound m ≡ true → first_failed (set_checks p m n v) ≡ 0
    → Holds m (place n) true (stored p m (place n) v) (step p m (set n v))
unfolding step store
set_leaves p m n v s e =
    let t = settable p m n v e in
    let k = place n in
    let w = stored p m k v in
    let S = opened m s in
    let hk = listed-place p n t.is_listed in
    let hv = permits-most (row_at k) w (stored-permitted p m k v t.allowed).0 in
    rw (set_stores p m n v e)
    record {
      presence = put-present-same m k true (subscribed m k) (pending m k) (in_flight m k) w S hk hv;
      value = put-body-same m k true (subscribed m k) (pending m k) (in_flight m k) w S hk hv;
      others = λ j hj ne. (put-present_other m k true (subscribed m k) (pending m k) (in_flight m k) w S hk hv j hj ne, put-body_other m k true (subscribed m k) (pending m k) (in_flight m k) w S hk hv j hj ne);
    }

pub stored-value : (p : ℕ) (m : List ℕ) (k : ℕ) (v : List ℕ) → k ≢ commit → stored p m k v ≡ in_memory p k v
unfolding stored
stored-value p m k v ne = rw (ne_eqb k commit ne)

pub local_leaves : (m : List ℕ) (n : ℕ) (v : List ℕ) → sound m ≡ true → Local n v → Holds m (place n) (nonempty v) v (local_memory m (place n) v)
unfolding local_memory
local_leaves m n v s l =
    let k = place n in
    let S = opened m s in
    let hk = l.in_table in
    let hv = (local_held (row_at k) v l.allowed).1 in
    let q = pending m k || (subscribed m k && differs m k v) in
    record {
      presence = put-present-same m k (nonempty v) (subscribed m k) q (in_flight m k) v S hk hv;
      value = put-body-same m k (nonempty v) (subscribed m k) q (in_flight m k) v S hk hv;
      others = λ j hj ne. (put-present_other m k (nonempty v) (subscribed m k) q (in_flight m k) v S hk hv j hj ne, put-body_other m k (nonempty v) (subscribed m k) q (in_flight m k) v S hk hv j hj ne);
    }

-- what was set is read back
pub set-read : (p : ℕ) (m : List ℕ) (n : ℕ) (v : List ℕ) → sound m ≡ true → first_failed (set_checks p m n v) ≡ 0 → place n ≢ commit
    → answer p (step p m (set n v)) (read n) ≡ value n v
unfolding answer read_answer read_checks first_failed when_passed shown
set-read p m n v s e ne =
    let h = set_leaves p m n v s e in
    rw ((settable p m n v e).is_listed, h.presence, ne_eqb (place n) commit ne, h.value, stored-value p m (place n) v ne, wire_memory p (place n) v)

-- a read gives the octets that stand in the name's room (RULES 11.1), but for those that the wire has not, whoever sets it, and leaves memory; so does get
-- capabilities
pub read-value : (p : ℕ) (m : List ℕ) (n : ℕ) → sound m ≡ true → listed p n ≡ true → present m (place n) ≡ true → place n ≢ commit
    → answer p m (read n) ≡ value n (drop (spared p (place n)) (part m (room_at (place n)) (length_at m (place n))))
unfolding answer read_answer read_checks first_failed when_passed shown on_wire
read-value p m n s e q ne = rw (e, q, ne_eqb (place n) commit ne, body_spelt m s (place n) (listed-place p n e))

pub read_leaves : (p : ℕ) (m : List ℕ) (n : ℕ) → (step p m (read n) ≡ m) × (step p m capabilities ≡ m)
unfolding step
read_leaves p m n = (refl, refl)

-- a read of 8001 (RULES 11.2)
pub read-running : (p : ℕ) (m : List ℕ) → present m commit ≡ true → answer p m (read 0x8001) ≡ value 0x8001 (sums (body m commit))
unfolding answer read_answer read_checks first_failed when_passed shown
read-running p m q = rw ((commit-listed p).0, (commit-listed p).1, q)
