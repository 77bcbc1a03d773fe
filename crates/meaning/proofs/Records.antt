-- Laws of records: joining, answers gathered, operations one after another, and that a part's reply fits wherever the whole's does.
use Prim.Native.Nat.{ℕ, ◌+◌, ◌≤◌, zero-le}
use native.Mathlib.Omega.{arith}
use mathlib.Core.Path.{◌≡◌, refl, sym, ap, subst, ◌∙◌}
use mathlib.Core.Bool.{Bool, true, false, ◌||◌, cond, or_assoc, or-false, or-true, false≢true}
use mathlib.Core.List.{List, [], ◌∷◌, ◌++◌, append_assoc, append-nil}
use lib.ListN.{length, length-append}
use lib.Dec.{leb}
use borrow.Author.Tests.{leb-true, le-leb}
use Rattle.meaning.specs.Octets.{be16, flat, nonempty, every}
use Rattle.meaning.specs.Operation.{Op}
use Rattle.meaning.specs.Step.{Answer, step, answer, after, answers}
use Rattle.meaning.specs.Reply.{Held, Records, no_records, joined, record_of, gathered, held_octets, short_octets, failed_octets, read_contents, long_octets, set_contents, all_names, element, any_read, any_set, complete, counts_fit}
use Rattle.meaning.specs.Calls.{records, carried_out, fits}
use Rattle.meaning.proofs.Lists.{flat-within, length-within, nonempty-within}
use Rattle.meaning.proofs.Tests.{every_at}

-- ---- joining

pub joined_none : (r : Records) → joined r no_records ≡ r
joined_none r = simp (append-nil, or-false)

pub joined_assoc : (r s t : Records) → joined (joined r s) t ≡ joined r (joined s t)
joined_assoc r s t = simp (append_assoc, or_assoc)

pub gathered-append : (a b : List Answer) → gathered (a ++ b) ≡ joined (gathered a) (gathered b)
unfolding gathered
gathered-append [] b = refl
gathered-append (x ∷ a) b = rw (gathered-append a b) (sym (joined_assoc (record_of x) (gathered a) (gathered b)))

-- ---- operations one after another

pub after-append : (p : ℕ) (m : List ℕ) (a b : List Op) → after p m (a ++ b) ≡ after p (after p m a) b
unfolding after
after-append p m [] b = refl
after-append p m (o ∷ a) b = after-append p (step p m o) a b

pub answers-append : (p : ℕ) (m : List ℕ) (a b : List Op) → answers p m (a ++ b) ≡ answers p m a ++ answers p (after p m a) b
unfolding after answers
answers-append p m [] b = refl
answers-append p m (o ∷ a) b = ap {B = List Answer} (λ l. answer p m o ∷ l) (answers-append p (step p m o) a b)

pub records-append : (p : ℕ) (m : List ℕ) (a b : List Op) → records p m (a ++ b) ≡ joined (records p m a) (records p (after p m a) b)
unfolding records
records-append p m a b = rw (answers-append p m a b) (gathered-append (answers p m a) (answers p (after p m a) b))

-- ---- lengths in numbers

long-length : (a : List Held) → length (long_octets a) ≡ cond (nonempty a) (2 + length (flat held_octets a)) 0
unfolding long_octets be16
long-length [] = refl
long-length (x ∷ a) = omega arith

pub read_length : (r : Records) → length (read_contents r) ≡ 2 + length (flat held_octets r.values) + length (flat failed_octets r.read_errors)
unfolding read_contents
read_length r =
    omega (arith, length-append (flat held_octets r.values) (length r.read_errors ∷ flat failed_octets r.read_errors))

pub set-length : (r : Records) → length (set_contents r)
    ≡ 2 + length (flat short_octets r.updates) + length (flat failed_octets r.update_errors) + length (long_octets r.long_updates)
unfolding set_contents
set-length r =
    omega (
      arith,
      length-append (flat short_octets r.updates)
          (length r.update_errors ∷ flat failed_octets r.update_errors ++ long_octets r.long_updates),
      length-append (flat failed_octets r.update_errors) (long_octets r.long_updates),
    )

pub complete-length : (p : ℕ) (r : Records) → length (complete p r)
    ≡ 1 + length (element 0x70 r.capabilities (all_names p)) + length (element 0x71 (any_read r) (read_contents r)) + length (element 0x72 (any_set r) (set_contents r))
unfolding complete
complete-length p r =
    omega (
      arith,
      length-append (element 0x70 r.capabilities (all_names p))
          (element 0x71 (any_read r) (read_contents r) ++ element 0x72 (any_set r) (set_contents r)),
      length-append (element 0x71 (any_read r) (read_contents r)) (element 0x72 (any_set r) (set_contents r)),
    )

-- ---- a part's reply is no longer than the whole's

element_grows : (id : ℕ) (b d : Bool) (c e : List ℕ) → (b ≡ true → d ≡ true) → length c ≤ length e → length (element id b c) ≤ length (element id d e)
unfolding element be16
element_grows id false d c e i h = zero-le
element_grows id true true c e i h = omega arith
element_grows id true false c e i h = absurd (false≢true (i refl))

or_grows : (a b c d : Bool) → (a ≡ true → c ≡ true) → (b ≡ true → d ≡ true) → (a || b) ≡ true → (c || d) ≡ true
or_grows true b c d f g e = rw (f refl)
or_grows false b c d f g e = rw (g e) (or-true c)

long-within : (p a q : List Held) → length (long_octets a) ≤ length (long_octets (p ++ (a ++ q)))
long-within p [] q = rw (long-length []) zero-le
long-within p (x ∷ a) q =
    rw (long-length (x ∷ a), long-length (p ++ (x ∷ a ++ q)), nonempty-within p (x ∷ a) q refl)
    (omega (arith, flat-within held_octets p (x ∷ a) q))

-- what number 7 tests, in numbers
pub record Fits (p room : ℕ) (r : Records) : Type 0 where
  pub in_room : length (complete p r) ≤ room
  pub in_limit : length (complete p r) ≤ 4096
  pub values : length r.values ≤ 255
  pub read_errors : length r.read_errors ≤ 255
  pub updates : length r.updates ≤ 255
  pub update_errors : length r.update_errors ≤ 255

-- number 7 looks at the reply that is made of the records which answer the operations
fits-reply : (p room : ℕ) (m : List ℕ) (os : List Op)
    → fits room (carried_out p m os) ≡ every (leb (length (complete p (records p m os))) room ∷ leb (length (complete p (records p m os))) 4096 ∷ counts_fit (records p m os) ∷ [])
unfolding fits carried_out
fits-reply p room m os = refl

pub fits_opened : (p room : ℕ) (m : List ℕ) (os : List Op) → fits room (carried_out p m os) ≡ true → Fits p room (records p m os)
unfolding counts_fit
fits_opened p room m os f =
    let e = sym (fits-reply p room m os) ∙ f in
    let c = every_at _ 2 e in
    record {
      in_room = leb-true _ _ (every_at _ 0 e);
      in_limit = leb-true _ _ (every_at _ 1 e);
      values = leb-true _ _ (every_at _ 0 c);
      read_errors = leb-true _ _ (every_at _ 1 c);
      updates = leb-true _ _ (every_at _ 2 c);
      update_errors = leb-true _ _ (every_at _ 3 c);
    }

pub fits_closed : (p room : ℕ) (m : List ℕ) (os : List Op) → Fits p room (records p m os) → fits room (carried_out p m os) ≡ true
unfolding counts_fit every
fits_closed p room m os f =
    fits-reply p room m os
    ∙ simp (
      le-leb _ _ f.in_room,
      le-leb _ _ f.in_limit,
      le-leb _ _ f.values,
      le-leb _ _ f.read_errors,
      le-leb _ _ f.updates,
      le-leb _ _ f.update_errors,
    )

module _ (p : ℕ) (h r q : Records) where
  abbrev whole : Records
  whole = joined h (joined r q)

  read-within : length (read_contents r) ≤ length (read_contents whole)
  read-within =
      omega (
        arith,
        read_length r,
        read_length whole,
        flat-within held_octets h.values r.values q.values,
        flat-within failed_octets h.read_errors r.read_errors q.read_errors,
      )

  set-within : length (set_contents r) ≤ length (set_contents whole)
  set-within =
      omega (
        arith,
        set-length r,
        set-length whole,
        flat-within short_octets h.updates r.updates q.updates,
        flat-within failed_octets h.update_errors r.update_errors q.update_errors,
        long-within h.long_updates r.long_updates q.long_updates,
      )

  any_read-within : any_read r ≡ true → any_read whole ≡ true
  any_read-within =
      or_grows (nonempty r.values) (nonempty r.read_errors) (nonempty whole.values) (nonempty whole.read_errors)
      (nonempty-within h.values r.values q.values)
      (nonempty-within h.read_errors r.read_errors q.read_errors)

  any_set-within : any_set r ≡ true → any_set whole ≡ true
  any_set-within =
      or_grows (nonempty r.updates) (nonempty r.update_errors || nonempty r.long_updates) (nonempty whole.updates) (nonempty whole.update_errors || nonempty whole.long_updates)
      (nonempty-within h.updates r.updates q.updates)
      (or_grows (nonempty r.update_errors) (nonempty r.long_updates) (nonempty whole.update_errors) (nonempty whole.long_updates)
      (nonempty-within h.update_errors r.update_errors q.update_errors)
      (nonempty-within h.long_updates r.long_updates q.long_updates))

  complete-within : length (complete p r) ≤ length (complete p whole)
  complete-within =
      omega (
        arith,
        complete-length p r,
        complete-length p whole,
        element_grows 0x70 r.capabilities whole.capabilities (all_names p) (all_names p) (λ e. rw e (or-true h.capabilities)) (omega arith),
        element_grows 0x71 (any_read r) (any_read whole) (read_contents r) (read_contents whole) any_read-within read-within,
        element_grows 0x72 (any_set r) (any_set whole) (set_contents r) (set_contents whole) any_set-within set-within,
      )

  pub fits-within : (room : ℕ) → Fits p room whole → Fits p room r
  fits-within room f =
      record {
        in_room = omega (arith, complete-within, f.in_room);
        in_limit = omega (arith, complete-within, f.in_limit);
        values = omega (arith, length-within h.values r.values q.values, f.values);
        read_errors = omega (arith, length-within h.read_errors r.read_errors q.read_errors, f.read_errors);
        updates = omega (arith, length-within h.updates r.updates q.updates, f.updates);
        update_errors = omega (arith, length-within h.update_errors r.update_errors q.update_errors, f.update_errors);
      }

pub fits_left : (p room : ℕ) (r s : Records) → Fits p room (joined r s) → Fits p room r
fits_left p room r s f = fits-within p no_records r s room f

pub fits-right : (p room : ℕ) (r s : Records) → Fits p room (joined r s) → Fits p room s
fits-right p room r s f = fits-within p r s no_records room (subst (λ (x : Records). Fits p room (joined r x)) (sym (joined_none s)) f)

-- another room serves too that the reply fits in
pub fits_in : (p n k : ℕ) (r : Records) → length (complete p r) ≤ k → Fits p n r → Fits p k r
fits_in p n k r h f =
    record {
      in_room = h;
      in_limit = f.in_limit;
      values = f.values;
      read_errors = f.read_errors;
      updates = f.updates;
      update_errors = f.update_errors;
    }
