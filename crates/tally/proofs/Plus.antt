-- A tally and one record more, by the answer's kind; records joined are tallied one after another; how far a tally grows.
use Prim.Native.Nat.{ℕ, ◌+◌, ◌≤◌, ◌<◌}
use native.Mathlib.Nat.{add-zero, add_assoc}
use native.Mathlib.Decide.{dec_le}
use native.Mathlib.Omega.{arith}
use mathlib.Core.Path.{◌≡◌, refl, sym, ap, ◌∙◌}
use mathlib.Core.Bool.{Bool, true, false, ◌||◌}
use mathlib.Core.List.{List, [], ◌∷◌, ◌++◌, append-nil}
use lib.ListN.{length, length-append, length-replicate}
use borrow.Author.Tests.{le-leb, lt-leb}
use Rattle.meaning.specs.Octets.{be16, part, zeros, flat}
use Rattle.meaning.specs.Step.{names, value, read_error, update, update_error, silent}
use Rattle.meaning.specs.Reply.{Records, joined, record_of, held_octets, short_octets, failed_octets}
use Rattle.meaning.proofs.Lists.{length_part, flat-length}
use Rattle.operation.specs.declared.Op.{Op}
use Rattle.operation.specs.Handing.{name_of, from_of, size_of}
use Rattle.command.specs.declared.Answer.{Answer}
use Rattle.command.specs.declared.Answer.TheVariants.{Names, Value, ReadError, Update, UpdateError, Silent}
use Rattle.command.specs.Answers.{answer_of}
use Rattle.tally.specs.declared.Count.{Count}
use Rattle.tally.specs.declared.Tally.{Tally}
use Rattle.tally.specs.Tallies.{grown, plus, tallied, Small, Below}

-- ---- one record

grown_none : (c : Count) → grown c 0 0 ≡ c
unfolding grown
grown_none c = rw (add-zero, add-zero)

or-true : (b : Bool) → (b || true) ≡ true
or-true true = refl
or-true false = refl

or-false : (b : Bool) → (b || false) ≡ b
or-false true = refl
or-false false = refl

pub held-octets : (n : ℕ) (v : List ℕ) → length (flat held_octets (record { name = n; value = v } ∷ [])) ≡ 4 + length v
unfolding flat held_octets be16
held-octets n v = omega (arith, ap length (append-nil v))

pub short-octets : (n : ℕ) (v : List ℕ) → length (flat short_octets (record { name = n; value = v } ∷ [])) ≡ 3 + length v
unfolding flat short_octets be16
short-octets n v = omega (arith, ap length (append-nil v))

module _ (t : Tally) where
  -- the tally with another count of a kind
  abbrev with : Bool → Count → Count → Count → Count → Count → Tally
  with b v e u f l = record { capabilities = b; values = v; read_errors = e; updates = u; update_errors = f; long_updates = l }

  pub names_added : with true t.values t.read_errors t.updates t.update_errors t.long_updates ≡ plus t (record_of names)
  unfolding plus record_of flat
  names_added = simp (or-true t.capabilities, grown_none)

  pub silent_added : t ≡ plus t (record_of silent)
  unfolding plus record_of flat
  silent_added = simp (or-false t.capabilities, grown_none)

  pub value_added : (n : ℕ) (v : List ℕ) {c : Count} → c ≡ grown t.values 1 (4 + length v)
      → with t.capabilities c t.read_errors t.updates t.update_errors t.long_updates ≡ plus t (record_of (value n v))
  unfolding plus record_of flat
  value_added n v e = simp (e, or-false t.capabilities, grown_none, held-octets n v)

  pub read_error_added : (n k : ℕ) {c : Count} → c ≡ grown t.read_errors 1 3
      → with t.capabilities t.values c t.updates t.update_errors t.long_updates ≡ plus t (record_of (read_error n k))
  unfolding plus record_of flat failed_octets be16
  read_error_added n k e = simp (e, or-false t.capabilities, grown_none)

  pub update_error_added : (n k : ℕ) {c : Count} → c ≡ grown t.update_errors 1 3
      → with t.capabilities t.values t.read_errors t.updates c t.long_updates ≡ plus t (record_of (update_error n k))
  unfolding plus record_of flat failed_octets be16
  update_error_added n k e = simp (e, or-false t.capabilities, grown_none)

  pub update_added : (n : ℕ) (v : List ℕ) {c : Count} → length v ≤ 255 → c ≡ grown t.updates 1 (3 + length v)
      → with t.capabilities t.values t.read_errors c t.update_errors t.long_updates ≡ plus t (record_of (update n v))
  unfolding plus record_of flat
  update_added n v h e = simp (e, or-false t.capabilities, le-leb (length v) 255 h, grown_none, short-octets n v)

  pub long_added : (n : ℕ) (v : List ℕ) {c : Count} → 255 < length v → c ≡ grown t.long_updates 1 (4 + length v)
      → with t.capabilities t.values t.read_errors t.updates t.update_errors c ≡ plus t (record_of (update n v))
  unfolding plus record_of flat
  long_added n v h e = simp (e, or-false t.capabilities, lt-leb (length v) 255 h, grown_none, held-octets n v)

  -- of a value set the length alone counts
  update_alike : (n : ℕ) (v w : List ℕ) → length v ≡ length w → plus t (record_of (update n v)) ≡ plus t (record_of (update n w))
  update_alike n v w e = go (dec_le (length v) 255)
    where
      go : Dec (length v ≤ 255) → plus t (record_of (update n v)) ≡ plus t (record_of (update n w))
      go (yes h) = sym (update_added n v h refl) ∙ update_added n w (omega (arith, h, e)) (ap (λ (k : ℕ). grown t.updates 1 (3 + k)) e)
      go (no h) = sym (long_added n v (omega arith) refl) ∙ long_added n w (omega (arith, e)) (ap (λ (k : ℕ). grown t.long_updates 1 (4 + k)) e)

-- ---- the record of an answer

pub zeros-part : (o : Op) → length (part (zeros (from_of o + size_of o)) (from_of o) (size_of o)) ≡ size_of o
zeros-part o = length_part (zeros (from_of o + size_of o)) (from_of o) (size_of o) (omega (arith, length-replicate {A = ℕ} (from_of o + size_of o) 0))

pub tallied_is : (p : ℕ) (m s : List ℕ) (t : Tally) (o : Op) (a : Answer) → from_of o + size_of o ≤ length s → tallied p m t o a ≡ plus t (record_of (answer_of p m s o a))
unfolding tallied answer_of
tallied_is p m s t o Names h = refl
tallied_is p m s t o (Value k) h = refl
tallied_is p m s t o (ReadError c) h = refl
tallied_is p m s t o Update h = update_alike t (name_of o) _ _ (zeros-part o ∙ sym (length_part s (from_of o) (size_of o) h))
tallied_is p m s t o (UpdateError c) h = refl
tallied_is p m s t o Silent h = refl

-- ---- records joined

or_assoc : (a b c : Bool) → (a || (b || c)) ≡ ((a || b) || c)
or_assoc true b c = refl
or_assoc false b c = refl

grown-append : {A : Type 0} (f : A → List ℕ) (c : Count) (a b : List A)
    → grown c (length (a ++ b)) (length (flat f (a ++ b))) ≡ grown (grown c (length a) (length (flat f a))) (length b) (length (flat f b))
unfolding grown
grown-append f c a b = rw (length-append a b, flat-length f a b, add_assoc, add_assoc)

pub plus-joined : (t : Tally) (r s : Records) → plus t (joined r s) ≡ plus (plus t r) s
unfolding plus
plus-joined t r s =
    rw (
      or_assoc t.capabilities r.capabilities s.capabilities,
      grown-append held_octets t.values r.values s.values,
      grown-append failed_octets t.read_errors r.read_errors s.read_errors,
      grown-append short_octets t.updates r.updates s.updates,
      grown-append failed_octets t.update_errors r.update_errors s.update_errors,
      grown-append held_octets t.long_updates r.long_updates s.long_updates,
    )

-- ---- how far a tally grows

-- no kind of these records has more than 4,096 of them, or of their octets
pub record Light (r : Records) : Type 0 where
  pub values : (length r.values ≤ 4096) × (length (flat held_octets r.values) ≤ 4096)
  pub read_errors : (length r.read_errors ≤ 4096) × (length (flat failed_octets r.read_errors) ≤ 4096)
  pub updates : (length r.updates ≤ 4096) × (length (flat short_octets r.updates) ≤ 4096)
  pub update_errors : (length r.update_errors ≤ 4096) × (length (flat failed_octets r.update_errors) ≤ 4096)
  pub long_updates : (length r.long_updates ≤ 4096) × (length (flat held_octets r.long_updates) ≤ 4096)

grown-small : (b : ℕ) (c : Count) (n o : ℕ) → Small b c → (n ≤ 4096) × (o ≤ 4096) → Small (b + 4096) (grown c n o)
unfolding grown
grown-small b c n o s h = (omega (arith, s.0, h.0), omega (arith, s.1, h.1))

pub plus-below : (b : ℕ) (t : Tally) (r : Records) → Below b t → Light r → Below (b + 4096) (plus t r)
unfolding plus
plus-below b t r s h = (
  grown-small b t.values _ _ s.0 h.values,
  grown-small b t.read_errors _ _ s.1 h.read_errors,
  grown-small b t.updates _ _ s.2 h.updates,
  grown-small b t.update_errors _ _ s.3 h.update_errors,
  grown-small b t.long_updates _ _ s.4 h.long_updates,
)

small-more : (b d : ℕ) (c : Count) → b ≤ d → Small b c → Small d c
small-more b d c h s = (omega (arith, s.0, h), omega (arith, s.1, h))

pub below_more : (b d : ℕ) (t : Tally) → b ≤ d → Below b t → Below d t
below_more b d t h s = (
  small-more b d t.values h s.0,
  small-more b d t.read_errors h s.1,
  small-more b d t.updates h s.2,
  small-more b d t.update_errors h s.3,
  small-more b d t.long_updates h s.4,
)
