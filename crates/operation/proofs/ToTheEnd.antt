-- A list that is handed out to its end gives exactly its operations, in their order; one that breaks is refused with the position that the call tells.
use Prim.Native.Nat.{ℕ, zero, suc, ◌+◌, ◌-◌, ◌≤◌, ◌<◌}
use native.Mathlib.Omega.{arith}
use mathlib.Core.Path.{◌≡◌, refl, sym, ap, ◌∙◌}
use mathlib.Core.Bool.{false≢true}
use mathlib.Core.List.{List, []}
use mathlib.Core.Option.{Option, none, some}
use Rattle.std.specs.Prelude.{Some, None, Result, Ok, Err}
use Rattle.std.specs.Prelude as prelude
use lib.ListN.{length, drop, get_or, length-drop}
use Rattle.meaning.specs.Operation.{more, parse, is_some, broken, in_message, break_of}
use Rattle.meaning.specs.Operation as operation
use Rattle.meaning.proofs.Breaks.{more_none}
use Rattle.operation.specs.declared.Op.{Op}
use Rattle.operation.specs.declared.Malformed.{Malformed}
use Rattle.operation.specs.Handing.{op_of, Handed, handed_at, operation_in, place_behind}
use Rattle.operation.proofs.Turns.{HandsOut, turn, turn-malformed, turn_end, turn-broken, turn_breaks}
use Rattle.operation.proofs.Hands.{hands_out}

-- by one answer: an operation and those that are handed out from the place after it, no more at the end, and none where it is malformed
unfoldable pub onward : List ℕ → Handed → (ℕ → Option (List operation.Op)) → Option (List operation.Op)
onward s (Ok (Some n)) rest = more (op_of s n.op) (rest n.behind)
onward s (Ok None) rest = some []
onward s (Err e) rest = none

-- the operations of the list s, handed out one after another from a place by n calls, where f says what is answered at each place;
-- none where the n calls do not reach the end
unfoldable pub handed_out : List ℕ → (ℕ → Handed) → ℕ → ℕ → Option (List operation.Op)
handed_out s f zero at = none
handed_out s f (suc n) at = onward s (f at) (handed_out s f n)

-- the position with which a list is refused that is handed out so; 0 where it is not
unfoldable pub refused_on : Handed → (ℕ → ℕ) → ℕ
refused_on (Ok (Some n)) rest = rest n.behind
refused_on (Ok None) rest = 0
refused_on (Err e) rest = e.position

unfoldable pub refused_at : (ℕ → Handed) → ℕ → ℕ → ℕ
refused_at f zero at = 0
refused_at f (suc n) at = refused_on (f at) (refused_at f n)

module _ (p : ℕ) (s : List ℕ) where
  -- one answer, with what is handed out after it known
  onward_parses : (at : ℕ) (r : Handed) (rest : ℕ → Option (List operation.Op)) → HandsOut p s at r
      → ((next : ℕ) → at < next → next ≤ length s → rest next ≡ parse p (drop next s)) → onward s r rest ≡ parse p (drop at s)
  unfolding onward
  onward_parses at (Ok (Some n)) rest h k = ap (more (op_of s n.op)) (k n.behind h.1.0 h.1.1) ∙ sym (turn p s at n.behind n.op h.0)
  onward_parses at (Ok None) rest h k = sym (turn_end p s at h.0)
  onward_parses at (Err e) rest h k = sym (turn-malformed p s at e.position h.0)

  -- one answer, with the position of what follows it known
  abbrev break_from : ℕ → ℕ
  break_from at = in_message (length s - length (broken p (drop at s)))

  refused_breaks : (at : ℕ) (r : Handed) (rest : ℕ → ℕ) → at ≤ length s → HandsOut p s at r → parse p (drop at s) ≡ none
      → ((next : ℕ) → at < next → next ≤ length s → parse p (drop next s) ≡ none → rest next ≡ break_from next) → refused_on r rest ≡ break_from at
  unfolding refused_on
  refused_breaks at (Ok (Some n)) rest l h e k =
      k n.behind h.1.0 h.1.1 (more_none (op_of s n.op) _ (sym (turn p s at n.behind n.op h.0) ∙ e)) ∙ sym (ap (λ (u : List ℕ). in_message (length s - length u)) (turn-broken p s at n.behind n.op h.0))
  refused_breaks at (Err f) rest l h e k = omega (arith, h.1, ap length (turn_breaks p s at f.position h.0), length-drop at s, l)
  refused_breaks at (Ok None) rest l h e k = absurd (false≢true (ap is_some (sym e ∙ turn_end p s at h.0)))

  module _ (octets : (i : ℕ) → get_or s i 0 < 256) (f : ℕ → Handed) (each : (at : ℕ) → at ≤ length s → f at ≡ handed_at p s at) where
    from-position : (n at : ℕ) → at ≤ length s → length s < at + n → handed_out s f n at ≡ parse p (drop at s)
    unfolding handed_out
    from-position zero at l b = absurd (omega arith)
    from-position (suc n) at l b =
        onward_parses at (f at) (handed_out s f n) (hands_out p s octets at (f at) (each at l)) (λ next a e. from-position n next e (omega (arith, a, b)))

    -- if each answer is the one that the contract of `operation_at` gives at that place, then those from the start to the end are the list's
    -- operations, and none where one is malformed. Any number of calls above that of its octets is enough
    pub to_the_end : (n : ℕ) → length s < n → handed_out s f n 0 ≡ parse p s
    to_the_end n b = from-position n 0 (omega arith) (omega (arith, b))

    refused-from : (n at : ℕ) → at ≤ length s → length s < at + n → parse p (drop at s) ≡ none → refused_at f n at ≡ break_from at
    unfolding refused_at
    refused-from zero at l b e = absurd (omega arith)
    refused-from (suc n) at l b e =
        refused_breaks at (f at) (refused_at f n) l (hands_out p s octets at (f at) (each at l)) e (λ next a k g. refused-from n next k (omega (arith, a, b)) g)

    -- and where one is malformed, the position that its refusal tells is the one of the message
    pub to_the_break : (n : ℕ) → length s < n → parse p s ≡ none → refused_at f n 0 ≡ break_of p s
    unfolding break_of
    to_the_break n b e = refused-from n 0 (omega arith) (omega (arith, b)) e

-- ---- a reader, which goes on from the place at which its last answer left it

-- what a reader answers: an operation, no more at the end, or the position of one that is malformed
abbrev pub Answer : Type 0
Answer = Result (prelude.Option Op) Malformed

-- by one answer: its operation and those that are read after it, no more at the end, and none where it is malformed
unfoldable pub followed : List ℕ → Answer → Option (List operation.Op) → Option (List operation.Op)
followed s (Ok (Some o)) rest = more (op_of s o) rest
followed s (Ok None) rest = some []
followed s (Err e) rest = none

-- the operations of the list s, read one after another from a place by n calls, where f says what the reader answers at each place, and g at
-- which place it then is; none where the n calls do not reach the end
unfoldable pub read_out : List ℕ → (ℕ → Answer) → (ℕ → ℕ) → ℕ → ℕ → Option (List operation.Op)
read_out s f g zero at = none
read_out s f g (suc n) at = followed s (f at) (read_out s f g n (g at))

-- the position with which a list is refused that is read so; 0 where it is not
unfoldable pub refused_by : Answer → ℕ → ℕ
refused_by (Ok (Some o)) rest = rest
refused_by (Ok None) rest = 0
refused_by (Err e) rest = e.position

unfoldable pub read_refused : (ℕ → Answer) → (ℕ → ℕ) → ℕ → ℕ → ℕ
read_refused f g zero at = 0
read_refused f g (suc n) at = refused_by (f at) (read_refused f g n (g at))

module _ (p : ℕ) (s : List ℕ) where
  -- one answer of the reader and the place behind it tell what is handed out, if from each place on the reader reads what is handed out there
  followed_onward : (at : ℕ) (r : Handed) (read rest : ℕ → Option (List operation.Op)) → HandsOut p s at r
      → ((next : ℕ) → next ≤ length s → read next ≡ rest next) → followed s (operation_in r) (read (place_behind at r)) ≡ onward s r rest
  unfolding followed onward operation_in place_behind
  followed_onward at (Ok (Some n)) read rest h k = ap (more (op_of s n.op)) (k n.behind h.1.1)
  followed_onward at (Ok None) read rest h k = refl
  followed_onward at (Err e) read rest h k = refl

  refused_onward : (at : ℕ) (r : Handed) (read rest : ℕ → ℕ) → HandsOut p s at r
      → ((next : ℕ) → next ≤ length s → read next ≡ rest next) → refused_by (operation_in r) (read (place_behind at r)) ≡ refused_on r rest
  unfolding refused_by refused_on operation_in place_behind
  refused_onward at (Ok (Some n)) read rest h k = k n.behind h.1.1
  refused_onward at (Ok None) read rest h k = refl
  refused_onward at (Err e) read rest h k = refl

  module _ (octets : (i : ℕ) → get_or s i 0 < 256) (f : ℕ → Answer) (g : ℕ → ℕ)
      (each : (at : ℕ) → at ≤ length s → (f at ≡ operation_in (handed_at p s at)) × (g at ≡ place_behind at (handed_at p s at))) where
    abbrev there : (at : ℕ) → HandsOut p s at (handed_at p s at)
    there at = hands_out p s octets at (handed_at p s at) refl

    read_as_handed : (n at : ℕ) → at ≤ length s → read_out s f g n at ≡ handed_out s (handed_at p s) n at
    unfolding read_out handed_out
    read_as_handed zero at l = refl
    read_as_handed (suc n) at l =
        rw ((each at l).0, (each at l).1) (followed_onward at (handed_at p s at) (read_out s f g n) (handed_out s (handed_at p s) n) (there at) (read_as_handed n))

    refused_as_handed : (n at : ℕ) → at ≤ length s → read_refused f g n at ≡ refused_at (handed_at p s) n at
    unfolding read_refused refused_at
    refused_as_handed zero at l = refl
    refused_as_handed (suc n) at l =
        rw ((each at l).0, (each at l).1) (refused_onward at (handed_at p s at) (read_refused f g n) (refused_at (handed_at p s) n) (there at) (refused_as_handed n))

    -- if at each place the reader answers as the contract of `next_operation` says, and is then where it says, what is read from the start by
    -- calls one after another is the list's operations, and none where one is malformed. Any number of calls above that of its octets is enough
    pub read_to_the_end : (n : ℕ) → length s < n → read_out s f g n 0 ≡ parse p s
    read_to_the_end n b = read_as_handed n 0 (omega arith) ∙ to_the_end p s octets (handed_at p s) (λ at l. refl) n b

    -- and where one is malformed, the position that the reader's refusal tells is the one of the message
    pub read_to_the_break : (n : ℕ) → length s < n → parse p s ≡ none → read_refused f g n 0 ≡ break_of p s
    read_to_the_break n b e = refused_as_handed n 0 (omega arith) ∙ to_the_break p s octets (handed_at p s) (λ at l. refl) n b e
