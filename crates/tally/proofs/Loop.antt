-- The loop that takes a tally: what is known before each turn, and what a turn adds.
use Prim.Native.Nat.{ℕ, ◌+◌, ◌*◌, ◌≤◌}
use native.Mathlib.Omega.{arith}
use mathlib.Core.Path.{◌≡◌, sym, ap, ap₂, ◌∙◌}
use mathlib.Core.Bool.{Bool, true, false, ◌||◌, cond, or_assoc, or-false}
use mathlib.Core.List.{List, [], ◌∷◌}
use lib.Dec.{leb}
use lib.ListN.{length}
use Rattle.meaning.specs.Octets.{be16, part, flat}
use Rattle.meaning.specs.Memory.{sound}
use Rattle.meaning.specs.Operation.{parse, is_some}
use Rattle.meaning.specs.Step.{step, answer, answers, after, shown}
use Rattle.meaning.specs.Reply.{kinds, held, record_of, gathered, failed_octets}
use Rattle.meaning.specs.Calls.{records}
use Rattle.meaning.proofs.Lists.{length_part}
use Rattle.operation.specs.declared.Op.{Op}
use Rattle.operation.specs.Handing.{op_of, name_of, from_of, size_of, Inside, Handed, handed}
use Rattle.operation.proofs.Turns.{HandsOut, NoOperation, inside-value}
use Rattle.command.specs.declared.Answer.{Answer}
use Rattle.command.specs.declared.Answer.TheVariants.{Names, Value, ReadError, Update, UpdateError, Silent}
use Rattle.command.specs.Answers.{answer_of, InTable, told, may_change, any_change}
use Rattle.command.proofs.Shown.{shown-short}
use Rattle.command.proofs.Told.{told_back}
use Rattle.command.proofs.Walk.{Under, rest, under_start, under_end, under_ahead, under_rest, under_turn}
use Rattle.tally.specs.declared.Count.{Count}
use Rattle.tally.specs.declared.Tally.{Tally}
use Rattle.tally.specs.Tallies.{plus, no_count, no_tally, tally_of, tallied, Small, Below}
use Rattle.tally.proofs.Plus.{held-octets, short-octets, Light, plus-joined, plus-below, below_more, silent_added, tallied_is}

-- ---- what a turn adds

failed_light : (n c : ℕ) → (1 ≤ 4096) × (length (flat failed_octets (record { name = n; cause = c } ∷ [])) ≤ 4096)
unfolding flat failed_octets be16
failed_light n c = (omega arith, omega arith)

none_small : Small 0 no_count
none_small = (omega arith, omega arith)

none_light : (0 ≤ 4096) × (0 ≤ 4096)
none_light = (omega arith, omega arith)

-- the record of one answer, where the list has at most 2,048 octets
pub told_light : (p : ℕ) (m s : List ℕ) (o : Op) (a : Answer) → length s ≤ 2048 → Inside (length s) o → InTable a → Light (record_of (answer_of p m s o a))
unfolding answer_of record_of flat
told_light p m s o Names h i t = record { values = none_light; read_errors = none_light; updates = none_light; update_errors = none_light; long_updates = none_light }
told_light p m s o (Value k) h i t =
    record {
      values = (omega arith, omega (arith, held-octets (name_of o) (shown p m k), shown-short p m k t));
      read_errors = none_light;
      updates = none_light;
      update_errors = none_light;
      long_updates = none_light;
    }
told_light p m s o (ReadError c) h i t =
    record { values = none_light; read_errors = failed_light (name_of o) c; updates = none_light; update_errors = none_light; long_updates = none_light }
told_light p m s o Update h i t = go (leb (length v) 255)
  where
    v : List ℕ
    v = part s (from_of o) (size_of o)

    l : length v ≤ 2048
    l = omega (arith, length_part s (from_of o) (size_of o) (inside-value (length s) o i), inside-value (length s) o i, h)

    go : (b : Bool) → Light (cond b (kinds false [] [] (held (name_of o) v) [] []) (kinds false [] [] [] [] (held (name_of o) v)))
    go true =
        record { values = none_light; read_errors = none_light; updates = (omega arith, omega (arith, short-octets (name_of o) v, l)); update_errors = none_light; long_updates = none_light }
    go false =
        record { values = none_light; read_errors = none_light; updates = none_light; update_errors = none_light; long_updates = (omega arith, omega (arith, held-octets (name_of o) v, l)) }
told_light p m s o (UpdateError c) h i t =
    record { values = none_light; read_errors = none_light; updates = none_light; update_errors = failed_light (name_of o) c; long_updates = none_light }
told_light p m s o Silent h i t = record { values = none_light; read_errors = none_light; updates = none_light; update_errors = none_light; long_updates = none_light }

-- ---- the loop

-- the tally of what was answered so far, with that of the answers to come, is the whole one; whether memory changed, the same way
pub record Counting (p : ℕ) (m list copy : List ℕ) (t : Tally) (changed : Bool) (at : ℕ) : Type 0 where
  pub under : Under p m list copy at
  pub leads : plus t (records p copy (rest p list at)) ≡ tally_of (records p m (rest p list 0))
  pub flagged : (changed || any_change (answers p copy (rest p list at))) ≡ any_change (answers p m (rest p list 0))
  pub small : Below (4096 * at) t

-- a tally of zeros
zero_count : (c : Count) → (c.count ≡ 0) × (c.octets ≡ 0) → c ≡ no_count
zero_count c e = ap₂ (λ (n k : ℕ). record { count = n; octets = k }) e.0 e.1

abbrev Zero : Count → Type 0
Zero c = (c.count ≡ 0) × (c.octets ≡ 0)

pub zero_tally : (t : Tally) → (t.capabilities ≡ false) × (Zero t.values × (Zero t.read_errors × (Zero t.updates × (Zero t.update_errors × Zero t.long_updates)))) → t ≡ no_tally
zero_tally t z = go t.capabilities t.values t.read_errors t.updates t.update_errors t.long_updates z
  where
    go : (b : Bool) (v e u f l : Count) → (b ≡ false) × (Zero v × (Zero e × (Zero u × (Zero f × Zero l))))
        → record { capabilities = b; values = v; read_errors = e; updates = u; update_errors = f; long_updates = l } ≡ no_tally
    go b v e u f l h = rw (h.0, zero_count v h.1.0, zero_count e h.1.1.0, zero_count u h.1.1.1.0, zero_count f h.1.1.1.1.0, zero_count l h.1.1.1.1.1)

pub counting_start : (p : ℕ) (m list copy : List ℕ) → sound m ≡ true → is_some (parse p list) ≡ true → copy ≡ m → Counting p m list copy no_tally false 0
unfolding tally_of
counting_start p m list copy s w e =
    record { under = under_start p m list copy s w e; leads = rw e; flagged = rw e; small = (none_small, none_small, none_small, none_small, none_small) }

module _ (p : ℕ) (m list copy : List ℕ) (t : Tally) (changed : Bool) (at : ℕ) (u : Counting p m list copy t changed at) (h : Handed) (hands : HandsOut p list at h) where
  pub counting_end : length list ≤ 2048 → NoOperation h
      → (t ≡ tally_of (records p m (rest p list 0))) × Below 16777216 t × (copy ≡ after p m (rest p list 0)) × (changed ≡ any_change (answers p m (rest p list 0)))
  unfolding records gathered answers any_change
  counting_end long k =
      let e = under_end p m list copy at u.under h hands k in (
        silent_added t ∙ unfold record_of in rw e.0 at u.leads,
        below_more (4096 * at) 16777216 t (omega (arith, u.under.inside, long)) u.small,
        e.1,
        sym (or-false changed) ∙ rw e.0 at u.flagged,
      )

  pub counting_turn : (o : Op) (next : ℕ) → h ≡ handed o next → length list ≤ 2048 → (copy' : List ℕ) (a : Answer) (t' : Tally) (b : Bool)
      → copy' ≡ step p copy (op_of list o) → a ≡ told (answer p copy (op_of list o)) → t' ≡ tallied p copy' t o a → b ≡ may_change a
      → Counting p m list copy' t' (changed || b) next
  unfolding records gathered answers any_change
  counting_turn o next e long copy' a t' b q f adds tells =
      let w = under_ahead p m list copy at u.under h hands o next e in
      let back = told_back p copy list o copy' a q f in
      let x : t' ≡ plus t (record_of (answer_of p copy' list o a)) = adds ∙ tallied_is p copy' list t o a (inside-value (length list) o w.2) in
      let y : b ≡ may_change (told (answer p copy (op_of list o))) = tells ∙ ap may_change f in
      let r = under_rest p m list copy at u.under h hands o next e in
      record {
        under = under_turn p m list copy at u.under h hands o next e copy' q;
        leads = rw (x, back.0, q) (sym (plus-joined t (record_of (answer p copy (op_of list o))) _) ∙ rw r at u.leads);
        flagged = rw (y, q) (or_assoc changed (may_change (told (answer p copy (op_of list o)))) _ ∙ rw r at u.flagged);
        small =
            rw x
            (below_more (4096 * at + 4096) (4096 * next) (plus t (record_of (answer_of p copy' list o a))) (omega (arith, w.0))
            (plus-below (4096 * at) t _ u.small (told_light p copy' list o a long w.2 back.1)));
      }
