-- What one operation does to memory and what it answers; operations one after another.
use Rattle.std.specs.Prelude.{ℕ, Bool, true, false, cond, List, [], ◌∷◌, length, eqb}
use Rattle.meaning.specs.Octets.{same, every}
use Rattle.meaning.specs.Checks.{Checks, passed, check, first_failed, when_passed}
use Rattle.meaning.specs.Table.{row_at, place, by_controller, admin_base_time, admin_control_list_length, admin_control_list, admin_cycle_time, commit}
use Rattle.meaning.specs.Wire.{cause_not_supported, cause_invalid_value, cause_protocol_error}
use Rattle.meaning.specs.Block.{sums, joined_block, form_and_fit, permits}
use Rattle.meaning.specs.Memory.{present, pending, in_flight, body, store, set_marks, four_present}
use Rattle.meaning.specs.Profile.{listed, on_wire, in_memory, sendable, cause_absent}
use Rattle.meaning.specs.Operation.{Op, capabilities, read, set, subscribe, unsubscribe, selective_read, selective_subscribe, selective_unsubscribe, delete_entry}

-- an answer: all names; a value or a cause to a read; a value or a cause to a set; no record
pub data Answer : Type 0 where
  names : Answer
  value : ℕ → List ℕ → Answer
  read_error : ℕ → ℕ → Answer
  update : ℕ → List ℕ → Answer
  update_error : ℕ → ℕ → Answer
  silent : Answer

-- ---- read (RULES 11.1 to 11.4)

-- the sums of what runs where 8001 is read, else the value as the wire has it
unfoldable pub shown : ℕ → List ℕ → ℕ → List ℕ
shown p m k = cond (eqb k commit) (sums (body m commit)) (on_wire p k (body m k))

unfoldable pub read_checks : ℕ → List ℕ → ℕ → Checks
read_checks p m n =
    check cause_not_supported (listed p n)
    (check (cause_absent p) (present m (place n)) passed)

unfoldable pub read_answer : ℕ → List ℕ → ℕ → Answer
read_answer p m n = when_passed (first_failed (read_checks p m n)) (value n (shown p m (place n))) (read_error n)

-- ---- set (RULES 11.5 to 11.12), and commit (RULES 11.13 to 11.19)

-- the block that the four values make
unfoldable pub block : List ℕ → List ℕ
block m = joined_block (body m admin_base_time) (body m admin_control_list_length) (body m admin_control_list) (body m admin_cycle_time)

unfoldable pub commits : List ℕ → List ℕ → Bool
commits m v =
    every
    (four_present m
    ∷ eqb (length v) 4
    ∷ form_and_fit (block m)
    ∷ same v (sums (block m))
    ∷ [])

unfoldable pub permitted : ℕ → List ℕ → ℕ → List ℕ → Bool
permitted p m k v = cond (eqb k commit) (commits m v) (permits (row_at k) (in_memory p k v))

-- the causes of RULES 11.6 to 11.8 and 24.6, in this order
unfoldable pub set_checks : ℕ → List ℕ → ℕ → List ℕ → Checks
set_checks p m n v =
    check cause_not_supported (listed p n)
    (check cause_protocol_error (by_controller (row_at (place n)).owner)
    (check cause_protocol_error (sendable p v)
    (check cause_invalid_value (permitted p m (place n) v) passed)))

unfoldable pub set_answer : ℕ → List ℕ → ℕ → List ℕ → Answer
set_answer p m n v = when_passed (first_failed (set_checks p m n v)) (update n v) (update_error n)

-- what the body becomes: the block for a commit, else the value as memory has it
unfoldable pub stored : ℕ → List ℕ → ℕ → List ℕ → List ℕ
stored p m k v = cond (eqb k commit) (block m) (in_memory p k v)

unfoldable pub set_memory : ℕ → List ℕ → ℕ → List ℕ → List ℕ
set_memory p m n v = when_passed (first_failed (set_checks p m n v)) (store m (place n) (stored p m (place n) v)) (λ cause. m)

-- ---- subscribe and unsubscribe (RULES 11.21 to 11.24)

unfoldable pub subscribe_memory : ℕ → List ℕ → ℕ → List ℕ
subscribe_memory p m n = cond (listed p n) (set_marks m (place n) true (pending m (place n)) (in_flight m (place n))) m

unfoldable pub unsubscribe_memory : ℕ → List ℕ → ℕ → List ℕ
unsubscribe_memory p m n = cond (listed p n) (set_marks m (place n) false false false) m

-- ---- an operation, and one after another (RULES 10.12); what is not served leaves memory as it is (RULES 11.26 to 11.29)

unfoldable pub step : ℕ → List ℕ → Op → List ℕ
step p m capabilities = m
step p m (read n) = m
step p m (set n v) = set_memory p m n v
step p m (subscribe n) = subscribe_memory p m n
step p m (unsubscribe n) = unsubscribe_memory p m n
step p m (selective_read n v) = m
step p m (selective_subscribe n v) = m
step p m (selective_unsubscribe n v) = m
step p m (delete_entry n v) = m

unfoldable pub answer : ℕ → List ℕ → Op → Answer
answer p m capabilities = names
answer p m (read n) = read_answer p m n
answer p m (set n v) = set_answer p m n v
answer p m (subscribe n) = silent
answer p m (unsubscribe n) = silent
answer p m (selective_read n v) = read_error n cause_protocol_error
answer p m (selective_subscribe n v) = silent
answer p m (selective_unsubscribe n v) = silent
answer p m (delete_entry n v) = update_error n cause_protocol_error

-- the memory after some operations, and their answers in list order
unfoldable pub after : ℕ → List ℕ → List Op → List ℕ
after p m [] = m
after p m (o ∷ os) = after p (step p m o) os

unfoldable pub answers : ℕ → List ℕ → List Op → List Answer
answers p m [] = []
answers p m (o ∷ os) = answer p m o ∷ answers p (step p m o) os
