-- What a tally says of the reply: its lengths are those of the reply's octets, and it fits where the reply does.
use Prim.Native.Nat.{ℕ, ◌+◌, ◌≤◌}
use native.Mathlib.Nat.{zero-add}
use native.Mathlib.Omega.{arith}
use mathlib.Core.Path.{◌≡◌, refl, sym, ap₂}
use mathlib.Core.Bool.{Bool, true, false, ◌||◌, not, cond, and-true}
use mathlib.Core.List.{List, [], ◌∷◌}
use lib.ListN.{length}
use lib.Dec.{eqb}
use borrow.Author.Tests.{ne_eqb}
use Rattle.meaning.specs.Octets.{be16, flat, nonempty, every}
use Rattle.meaning.specs.Profile.{names_length}
use Rattle.meaning.specs.Operation.{Op}
use Rattle.meaning.specs.Reply.{Held, Failed, Records, held_octets, read_contents, set_contents, all_names, element, complete, counts_fit}
use Rattle.meaning.specs.Reply as reply
use Rattle.meaning.specs.Calls.{records, carried_out, fits}
use Rattle.meaning.proofs.Records.{read_length, set-length, complete-length}
use Rattle.meaning.proofs.Contents.{names-length}
use Rattle.tally.specs.Tallies.{grown, plus, tally_of, read_octets, long_octets, set_octets, any_read, any_set, element_length, reply_length, tally_fits}

some_counted : (n : ℕ) → 1 ≤ n → eqb n 0 ≡ false
some_counted n h = ne_eqb n 0 (λ e. absurd (omega (arith, e, h)))

element-length : (id : ℕ) (b : Bool) (c : List ℕ) → element_length b (length c) ≡ length (element id b c)
unfolding element_length element be16
element-length id true c = omega arith
element-length id false c = refl

module _ (r : Records) where
  names-element : (p : ℕ) → element_length (tally_of r).capabilities (names_length p) ≡ length (element 0x70 r.capabilities (all_names p))
  unfolding tally_of plus
  names-element p = rw (sym (names-length p)) (element-length 0x70 r.capabilities (all_names p))

  pub read-octets : read_octets (tally_of r) ≡ length (read_contents r)
  unfolding read_octets tally_of plus grown
  read-octets = omega (arith, read_length r)

  some_long : long_octets (tally_of r).long_updates ≡ length (reply.long_octets r.long_updates)
  unfolding long_octets tally_of plus grown reply.long_octets be16
  some_long = simp zero-add (go r.long_updates)
    where
      go : (l : List Held) → cond (eqb (length l) 0) 0 (2 + length (flat held_octets l)) ≡ length (reply.long_octets l)
      go [] = refl
      go (h ∷ l) = rw (some_counted (length (h ∷ l)) (omega arith)) (omega arith)

  pub set-octets : set_octets (tally_of r) ≡ length (set_contents r)
  unfolding set_octets tally_of plus grown
  set-octets = omega (arith, set-length r, some_long)

  pub any_read_lem : any_read (tally_of r) ≡ reply.any_read r
  unfolding any_read tally_of plus grown
  any_read_lem = simp zero-add (go r.values r.read_errors)
    where
      go : (v : List Held) (e : List Failed) → not (eqb (length v + length e) 0) ≡ (nonempty v || nonempty e)
      go [] [] = refl
      go [] (x ∷ e) = rw (some_counted (0 + length (x ∷ e)) (omega arith))
      go (h ∷ v) e = rw (some_counted (length (h ∷ v) + length e) (omega arith))

  pub any_set_lem : any_set (tally_of r) ≡ reply.any_set r
  unfolding any_set tally_of plus grown
  any_set_lem = simp zero-add (go r.updates r.update_errors r.long_updates)
    where
      go : (u : List Held) (f : List Failed) (l : List Held)
          → not (eqb (length u + length f + length l) 0) ≡ (nonempty u || (nonempty f || nonempty l))
      go [] [] [] = refl
      go [] [] (x ∷ l) = rw (some_counted (0 + length (x ∷ l)) (omega arith))
      go [] (x ∷ f) l = rw (some_counted (0 + length (x ∷ f) + length l) (omega arith))
      go (h ∷ u) f l = rw (some_counted (length (h ∷ u) + length f + length l) (omega arith))

  pub reply-length : (p : ℕ) → reply_length p (tally_of r) ≡ length (complete p r)
  unfolding reply_length
  reply-length p =
      rw (any_read_lem, any_set_lem, read-octets, set-octets, complete-length p r)
      (ap₂ ◌+◌ (ap₂ (λ (a b : ℕ). 1 + a + b) (names-element p) (element-length 0x71 (reply.any_read r) (read_contents r))) (element-length 0x72 (reply.any_set r) (set_contents r)))

-- ---- number 7

pub tally_fits_lem : (p n : ℕ) (m : List ℕ) (os : List Op)
    → let t = tally_of (records p m os) in
    tally_fits (reply_length p t) n t ≡ fits n (carried_out p m os)
unfolding tally_fits fits carried_out counts_fit every
tally_fits_lem p n m os = rw (reply-length (records p m os) p) (unfold tally_of plus grown in simp (zero-add, and-true))

-- ---- the counts

module _ (r : Records) where
  pub values-count : (tally_of r).values.count ≡ length r.values
  unfolding tally_of plus grown
  values-count = zero-add (length r.values)

  pub read_errors-count : (tally_of r).read_errors.count ≡ length r.read_errors
  unfolding tally_of plus grown
  read_errors-count = zero-add (length r.read_errors)

  pub updates-count : (tally_of r).updates.count ≡ length r.updates
  unfolding tally_of plus grown
  updates-count = zero-add (length r.updates)

  pub update_errors-count : (tally_of r).update_errors.count ≡ length r.update_errors
  unfolding tally_of plus grown
  update_errors-count = zero-add (length r.update_errors)

  pub long_updates-count : (tally_of r).long_updates.count ≡ length r.long_updates
  unfolding tally_of plus grown
  long_updates-count = zero-add (length r.long_updates)

  pub long_updates-octets : (tally_of r).long_updates.octets ≡ length (flat held_octets r.long_updates)
  unfolding tally_of plus grown
  long_updates-octets = zero-add (length (flat held_octets r.long_updates))

  pub asked-names : (tally_of r).capabilities ≡ r.capabilities
  unfolding tally_of plus
  asked-names = refl
