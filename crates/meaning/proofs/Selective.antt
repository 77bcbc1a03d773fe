-- What a controller of Release 18 may ask and the port does not serve (RULES 11.26 to 11.29, 12.16): selective reads, subscribes and unsubscribes, and
-- deletes of entries. They leave every octet of memory, are answered alike for every name, and struck out of a command they take no record of another
-- operation along.
use Prim.Native.Nat.{ℕ, ◌+◌, ◌≤◌, ◌<◌}
use native.Mathlib.Omega.{arith}
use mathlib.Core.Path.{◌≡◌, refl, ap, ◌∙◌}
use mathlib.Core.Bool.{Bool, true, false, cond, true≢false}
use mathlib.Core.List.{List, [], ◌∷◌, ◌++◌, append-nil}
use lib.ListN.{length}
use Rattle.meaning.specs.Octets.{be16, flat}
use Rattle.meaning.specs.Profile.{is_release16, sound_in}
use Rattle.meaning.specs.Operation.{Op, capabilities, read, set, subscribe, unsubscribe, selective_read, selective_subscribe, selective_unsubscribe, delete_entry}
use Rattle.meaning.specs.Step.{step, answer, after, answers}
use Rattle.meaning.specs.Reply.{Records, joined, record_of, gathered, complete, read_contents, set_contents, element, failed_octets, long_octets}
use Rattle.meaning.specs.Calls.{Outcome, done, is_command, ops_of, records, carried_out, message_checks, message}
use Rattle.meaning.proofs.Checked.{call-memory}
use Rattle.meaning.proofs.Encode.{encode, Fine}
use Rattle.meaning.proofs.Records.{Fits}
use Rattle.meaning.proofs.Accepted.{handled-command, accepted_call, carried_accepted}
use Rattle.meaning.proofs.Cut.{command_of, sent_operations}

-- ---- struck out of a command

-- the operations that the port serves: those of codes 1 to 5
unfoldable pub serves : Op → Bool
serves capabilities = true
serves (read n) = true
serves (set n v) = true
serves (subscribe n) = true
serves (unsubscribe n) = true
serves (selective_read n v) = false
serves (selective_subscribe n v) = false
serves (selective_unsubscribe n v) = false
serves (delete_entry n v) = false

-- a list without the others
unfoldable pub served : List Op → List Op
served [] = []
served (o ∷ os) = cond (serves o) (o ∷ served os) (served os)

-- none of them changes an octet (RULES 11.29)
pub unserved_nothing : (p : ℕ) (m : List ℕ) (o : Op) → serves o ≡ false → step p m o ≡ m
unfolding serves step
unserved_nothing p m capabilities e = absurd (true≢false e)
unserved_nothing p m (read n) e = absurd (true≢false e)
unserved_nothing p m (set n v) e = absurd (true≢false e)
unserved_nothing p m (subscribe n) e = absurd (true≢false e)
unserved_nothing p m (unsubscribe n) e = absurd (true≢false e)
unserved_nothing p m (selective_read n v) e = refl
unserved_nothing p m (selective_subscribe n v) e = refl
unserved_nothing p m (selective_unsubscribe n v) e = refl
unserved_nothing p m (delete_entry n v) e = refl

-- records that differ in errors alone
pub record SameButErrors (r s : Records) : Type 0 where
  pub capabilities : r.capabilities ≡ s.capabilities
  pub values : r.values ≡ s.values
  pub updates : r.updates ≡ s.updates
  pub long_updates : r.long_updates ≡ s.long_updates

-- what any answer adds to both sides
joined_same : (a r s : Records) → SameButErrors r s → SameButErrors (joined a r) (joined a s)
joined_same a r s e = record { capabilities = rw e.capabilities; values = rw e.values; updates = rw e.updates; long_updates = rw e.long_updates }

-- what is not served has no record but an error
unserved_errors : (p : ℕ) (m : List ℕ) (o : Op) (r : Records) → serves o ≡ false → SameButErrors (joined (record_of (answer p m o)) r) r
unfolding serves answer record_of
unserved_errors p m capabilities r e = absurd (true≢false e)
unserved_errors p m (read n) r e = absurd (true≢false e)
unserved_errors p m (set n v) r e = absurd (true≢false e)
unserved_errors p m (subscribe n) r e = absurd (true≢false e)
unserved_errors p m (unsubscribe n) r e = absurd (true≢false e)
unserved_errors p m (selective_read n v) r e = record { capabilities = refl; values = refl; updates = refl; long_updates = refl }
unserved_errors p m (selective_subscribe n v) r e = record { capabilities = refl; values = refl; updates = refl; long_updates = refl }
unserved_errors p m (selective_unsubscribe n v) r e = record { capabilities = refl; values = refl; updates = refl; long_updates = refl }
unserved_errors p m (delete_entry n v) r e = record { capabilities = refl; values = refl; updates = refl; long_updates = refl }

same_then : {r s t : Records} → SameButErrors r s → SameButErrors s t → SameButErrors r t
same_then d e =
    record {
      capabilities = d.capabilities ∙ e.capabilities;
      values = d.values ∙ e.values;
      updates = d.updates ∙ e.updates;
      long_updates = d.long_updates ∙ e.long_updates;
    }

-- without them a list leaves the same memory, and each record that is no error
pub record StruckOut (p : ℕ) (m : List ℕ) (os : List Op) : Type 0 where
  pub memory : after p m os ≡ after p m (served os)
  pub others : SameButErrors (records p m os) (records p m (served os))

-- one operation more, by what is left behind it where it acts and where it does not
struck_more : (p : ℕ) (m : List ℕ) (o : Op) (os : List Op) → StruckOut p (step p m o) os → StruckOut p m os → StruckOut p m (o ∷ os)
unfolding served after records answers gathered
struck_more p m o os acts passes = let w = go (serves o) refl in record { memory = w.0; others = w.1 }
  where
    go : (b : Bool) → serves o ≡ b
        → (after p (step p m o) os ≡ after p m (cond b (o ∷ served os) (served os)))
        × SameButErrors (joined (record_of (answer p m o)) (records p (step p m o) os)) (records p m (cond b (o ∷ served os) (served os)))
    go true e = (acts.memory, joined_same (record_of (answer p m o)) _ _ acts.others)
    go false e = rw (unserved_nothing p m o e) (passes.memory, same_then (unserved_errors p m o (records p m os) e) passes.others)

pub struck_out : (p : ℕ) (m : List ℕ) (os : List Op) → StruckOut p m os
unfolding served after records answers gathered
struck_out p m [] = record { memory = refl; others = record { capabilities = refl; values = refl; updates = refl; long_updates = refl } }
struck_out p m (o ∷ os) = struck_more p m o os (struck_out p (step p m o) os) (struck_out p m os)

-- so a command leaves the memory that those which are served leave
pub message_struck : (p : ℕ) (m s room : List ℕ) → is_command s ≡ true → (message p m s room).number ≡ 0 → (message p m s room).memory ≡ after p m (served (ops_of p s))
message_struck p m s room c n =
    ap (λ (o : Outcome). o.memory) (accepted_call p m s room (ops_of p s) (carried_accepted p m s room c n)) ∙ (struck_out p m (ops_of p s)).memory

-- and one that has none of those leaves every octet
pub message_unserved : (p : ℕ) (m s room : List ℕ) → is_command s ≡ true → served (ops_of p s) ≡ [] → (message p m s room).memory ≡ m
unfolding message carried_out after
message_unserved p m s room c e =
    call-memory (λ m'. m' ≡ m) (message_checks p m s (length room)) _ m room refl
    (λ _. rw (handled-command p m s c, (struck_out p m (ops_of p s)).memory, e))

-- ---- the answer, for every name and every value (RULES 11.26 to 11.28, 12.16), where the profile has these codes

module _ (p : ℕ) (m room v : List ℕ) (n : ℕ) (r : is_release16 p ≡ false) (s : sound_in p m ≡ true) (hn : n < 65536) (hv : length v ≤ 2040) where
  -- the command of the one operation with this code, this name and this value
  abbrev pub asking : ℕ → List ℕ
  asking c = command_of (c ∷ be16 n ++ (be16 (length v) ++ v))

  alone : (o : Op) (c : ℕ) → encode o ≡ c ∷ be16 n ++ (be16 (length v) ++ v) → Fine p o → Fits p (length room) (records p m (o ∷ []))
      → message p m (asking c) room ≡ done (complete p (records p m (o ∷ []))) (step p m o) room
  unfolding flat after
  alone o c e f fit =
      let t : flat encode (o ∷ []) ≡ c ∷ be16 n ++ (be16 (length v) ++ v) = append-nil (encode o) ∙ e in
      let l : 3 + length (flat encode (o ∷ [])) ≤ 2048 = rw t (unfold be16 in omega arith) in
      rw t at (sent_operations p m room (o ∷ []) s (omega arith) (f, tt) l fit)

  -- a selective read: an error with cause 6F in element 71
  pub selective_read-alone : 9 ≤ length room → message p m (asking 6) room ≡ done (0x02 ∷ 0x71 ∷ 0 ∷ 5 ∷ 0 ∷ 1 ∷ be16 n ++ (0x6F ∷ [])) m room
  unfolding encode step records answers answer gathered record_of complete element read_contents set_contents long_octets flat failed_octets be16
  selective_read-alone h =
      alone (selective_read n v) 6 refl (hn, omega arith, r)
      record { in_room = h; in_limit = omega arith; values = omega arith; read_errors = omega arith; updates = omega arith; update_errors = omega arith }

  -- a delete of an entry: an error with cause 6F in element 72
  pub delete_entry_alone : 9 ≤ length room → message p m (asking 9) room ≡ done (0x02 ∷ 0x72 ∷ 0 ∷ 5 ∷ 0 ∷ 1 ∷ be16 n ++ (0x6F ∷ [])) m room
  unfolding encode step records answers answer gathered record_of complete element read_contents set_contents long_octets flat failed_octets be16
  delete_entry_alone h =
      alone (delete_entry n v) 9 refl (hn, omega arith, r)
      record { in_room = h; in_limit = omega arith; values = omega arith; read_errors = omega arith; updates = omega arith; update_errors = omega arith }

  -- a selective subscribe or unsubscribe: the bare 02
  pub selective_subscribe-alone : 1 ≤ length room → message p m (asking 7) room ≡ done (0x02 ∷ []) m room
  unfolding encode step records answers answer gathered record_of complete element
  selective_subscribe-alone h =
      alone (selective_subscribe n v) 7 refl (hn, omega arith, r)
      record { in_room = h; in_limit = omega arith; values = omega arith; read_errors = omega arith; updates = omega arith; update_errors = omega arith }

  pub selective_unsubscribe-alone : 1 ≤ length room → message p m (asking 8) room ≡ done (0x02 ∷ []) m room
  unfolding encode step records answers answer gathered record_of complete element
  selective_unsubscribe-alone h =
      alone (selective_unsubscribe n v) 8 refl (hn, omega arith, r)
      record { in_room = h; in_limit = omega arith; values = omega arith; read_errors = omega arith; updates = omega arith; update_errors = omega arith }
