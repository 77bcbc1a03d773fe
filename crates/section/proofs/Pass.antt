-- The pass over the operations: what is known before each turn, what a turn writes, and what is written at the end.
use Prim.Native.Nat.{ℕ}
use mathlib.Core.Path.{◌≡◌, refl, ap, ◌∙◌}
use mathlib.Core.Bool.{true}
use mathlib.Core.List.{List, [], ◌++◌}
use lib.ListN.{length}
use Rattle.meaning.specs.Octets.{flat}
use Rattle.meaning.specs.Memory.{sound}
use Rattle.meaning.specs.Operation.{parse, is_some}
use Rattle.meaning.specs.Step.{step, answer, answers, after}
use Rattle.meaning.specs.Reply.{Records, joined, record_of, gathered, held_octets, short_octets, failed_octets}
use Rattle.meaning.specs.Calls.{records}
use Rattle.meaning.proofs.Lists.{flat_append}
use Rattle.octets.specs.Filling.{fill, Apart, Filled}
use Rattle.octets.proofs.Fills.{Filling, filling_start, filling_end, filling_fits, filling_step}
use Rattle.operation.specs.declared.Op.{Op}
use Rattle.operation.specs.Handing.{op_of, Handed, handed}
use Rattle.operation.proofs.Turns.{HandsOut, NoOperation}
use Rattle.command.specs.declared.Answer.{Answer}
use Rattle.command.specs.Answers.{told}
use Rattle.command.proofs.Told.{told_back}
use Rattle.command.proofs.Walk.{Under, rest, under_start, under_end, under_rest, under_turn}
use Rattle.std.specs.Prelude.{Option, None}
use Rattle.schedule.specs.declared.Sums.{Sums}
use Rattle.section.specs.declared.Places.{Places}
use Rattle.section.specs.Kinds.{Kind, Values, ReadErrors, Updates, UpdateErrors, LongUpdates, order, section}
use Rattle.section.specs.Places.{place_of, shares}
use Rattle.section.specs.Knowing.{Knows}

section-joined : (k : Kind) (r s : Records) → section k (joined r s) ≡ section k r ++ section k s
unfolding section
section-joined Values r s = flat_append held_octets r.values s.values
section-joined ReadErrors r s = flat_append failed_octets r.read_errors s.read_errors
section-joined Updates r s = flat_append short_octets r.updates s.updates
section-joined UpdateErrors r s = flat_append failed_octets r.update_errors s.update_errors
section-joined LongUpdates r s = flat_append held_octets r.long_updates s.long_updates

section_none : (p : ℕ) (k : Kind) (m : List ℕ) → section k (records p m []) ≡ []
unfolding section records gathered answers flat
section_none p Values m = refl
section_none p ReadErrors m = refl
section_none p Updates m = refl
section_none p UpdateErrors m = refl
section_none p LongUpdates m = refl

-- the octets of each kind, from a position of the list on
abbrev left : (p : ℕ) → List ℕ → List ℕ → ℕ → Kind → List ℕ
left p m list from k = section k (records p m (rest p list from))

-- the memory as the turns so far leave it, the records to come, and what is known of the running sums
pub record Passing (p : ℕ) (starts : Places) (m list out₀ copy out : List ℕ) (c : Places) (known : Option Sums) (from : ℕ) : Type 0 where
  pub under : Under p m list copy from
  pub remains : Filling order (place_of starts) (left p m list 0) out₀ (place_of c) (left p copy list from) out
  pub knows : Knows copy known

pub passing_start : (p : ℕ) (starts : Places) (m list out copy : List ℕ) → sound m ≡ true → is_some (parse p list) ≡ true → copy ≡ m
    → Apart 0 order (place_of starts) (left p m list 0) (length out) → Passing p starts m list out copy out starts None 0
passing_start p starts m list out copy s w e h =
    record {
      under = under_start p m list copy s w e;
      remains = rw e (filling_start order (place_of starts) (left p m list 0) out h);
      knows = tt;
    }

module _ (p : ℕ) (starts : Places) (m list out₀ copy out : List ℕ) (c : Places) (known : Option Sums) (from : ℕ) (u : Passing p starts m list out₀ copy out c known from)
    (h : Handed) (hands : HandsOut p list from h) where
  pub passing_end : NoOperation h → (copy ≡ after p m (rest p list 0)) × (out ≡ fill order (place_of starts) (left p m list 0) out₀)
  passing_end t =
      let e = under_end p m list copy from u.under h hands t in
      (e.1, (filling_end u.remains (λ k. ap (λ (os : List _). section k (records p copy os)) e.0 ∙ section_none p k copy)).written)

  module _ (o : Op) (next : ℕ) (e : h ≡ handed o next) (copy' : List ℕ) (a : Answer) (q : copy' ≡ step p copy (op_of list o)) (b : a ≡ told (answer p copy (op_of list o))) where
    -- the record of this turn, and those to come
    turned : (k : Kind) → left p copy list from k ≡ shares p copy' list o a k ++ left p copy' list next k
    unfolding records gathered answers
    turned k =
        rw (under_rest p m list copy from u.under h hands o next e, (told_back p copy list o copy' a q b).0, q)
        (section-joined k (record_of (answer p copy (op_of list o))) (gathered (answers p (step p copy (op_of list o)) (rest p list next))))

    pub turn-fits : Apart 0 order (place_of c) (shares p copy' list o a) (length out)
    turn-fits = filling_fits u.remains (shares p copy' list o a) (left p copy' list next) turned

    pub passing_turn : (c' : Places) (known' : Option Sums) (out' : List ℕ) → Knows copy' known'
        → Filled order (place_of c) (shares p copy' list o a) out (place_of c') out' → Passing p starts m list out₀ copy' out' c' known' next
    passing_turn c' known' out' n w =
        record {
          under = under_turn p m list copy from u.under h hands o next e copy' q;
          remains = filling_step u.remains (shares p copy' list o a) (left p copy' list next) turned w;
          knows = n;
        }
