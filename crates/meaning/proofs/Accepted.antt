-- A command that is carried out: what number 0 says of it, and what the call then gives.
use Prim.Native.Nat.{ℕ, ◌+◌, ◌≤◌}
use native.Mathlib.Omega.{arith}
use mathlib.Core.Path.{◌≡◌, refl, sym, ap, ◌∙◌}
use mathlib.Core.Bool.{true, false, ◌||◌, false≢true}
use mathlib.Core.Option.{Option, none, some}
use mathlib.Core.List.{List}
use lib.ListN.{length, drop, length-append, length-drop}
use lib.Dec.{leb}
use borrow.Author.Tests.{leb-true, le-leb, eqb-true}
use Rattle.meaning.specs.Octets.{octet, every, implies}
use Rattle.meaning.specs.Checks.{first_failed}
use Rattle.meaning.specs.Memory.{waiting}
use Rattle.meaning.specs.Profile.{sound_in}
use Rattle.meaning.specs.Operation.{Op, parse, is_some, or_none, break_of}
use Rattle.meaning.specs.Step.{after}
use Rattle.meaning.specs.Reply.{complete}
use Rattle.meaning.specs.Calls.{done, is_command, is_acknowledgement, length_field, operations, ops_of, length_right, records, carried_out, handled, fits, message_checks, located, message}
use Rattle.meaning.proofs.Tests.{every_at, implies_of, implied, first-passed, all_passing}
use Rattle.meaning.proofs.Checked.{call-done, call-passed}
use Rattle.meaning.proofs.Records.{Fits, fits_opened, fits_closed}

-- a command of these operations that a memory and a room of n octets carry out
pub record Accepted (p : ℕ) (m s : List ℕ) (n : ℕ) (os : List Op) : Type 0 where
  pub is_sound : sound_in p m ≡ true
  pub command : is_command s ≡ true
  pub long : length s ≤ 2048
  pub nonzero : 1 ≤ length_field s
  pub inside : 3 + length_field s ≤ length s
  pub parsed : parse p (operations s) ≡ some os
  pub fit : Fits p n (records p m os)

one_type : (s : List ℕ) → is_command s ≡ true → is_acknowledgement s ≡ false
unfolding is_command is_acknowledgement
one_type s e =
    let h : octet s 0 ≡ 1 = eqb-true _ _ e in
    rw h

pub some_of : (o : Option (List Op)) → is_some o ≡ true → o ≡ some (or_none o)
some_of none e = absurd (false≢true e)
some_of (some os) e = refl

pub ops_parsed : (p : ℕ) (s : List ℕ) (os : List Op) → parse p (operations s) ≡ some os → ops_of p s ≡ os
unfolding ops_of
ops_parsed p s os e = rw e

pub handled-command : (p : ℕ) (m s : List ℕ) → is_command s ≡ true → handled p m s ≡ carried_out p m (ops_of p s)
unfolding handled
handled-command p m s e = rw e

-- L is there, is not 0 and not past the end
pub length-right : (s : List ℕ) → length_right s ≡ true → (1 ≤ length_field s) × (3 + length_field s ≤ length s)
unfolding length_right
length-right s r = (leb-true _ _ (every_at _ 1 r), leb-true _ _ (every_at _ 2 r))

pub right-length : (s : List ℕ) → 1 ≤ length_field s → 3 + length_field s ≤ length s → length_right s ≡ true
unfolding length_right every
right-length s a b = simp (le-leb 3 (length s) (omega arith), le-leb _ _ a, le-leb _ _ b)

-- what a message's checks say where all pass
pub record Passed (p : ℕ) (m s : List ℕ) (n : ℕ) : Type 0 where
  pub is_sound : sound_in p m ≡ true
  pub nonempty : leb 1 (length s) ≡ true
  pub short : leb (length s) 2048 ≡ true
  pub known : (is_command s || is_acknowledgement s) ≡ true
  pub length_is : implies (is_command s) (length_right s) ≡ true
  pub well_formed : implies (is_command s) (is_some (parse p (operations s))) ≡ true
  pub awaited : implies (is_acknowledgement s) (waiting m) ≡ true
  pub fit : fits n (handled p m s) ≡ true

passed-message : (p : ℕ) (m s : List ℕ) (n : ℕ) → Passed p m s n → first_failed (message_checks p m s n) ≡ 0
unfolding message_checks
passed-message p m s n q =
    all_passing (message_checks p m s n) (q.is_sound, (q.nonempty, (q.short, (q.known, (q.length_is, (q.well_formed, (q.awaited, (q.fit, tt))))))))

pub message-passed : (p : ℕ) (m s : List ℕ) (n : ℕ) → first_failed (message_checks p m s n) ≡ 0 → Passed p m s n
unfolding message_checks
message-passed p m s n e =
    let e1 = first-passed 0 _ _ e in
    let e2 = first-passed 1 _ _ e1.1 in
    let e3 = first-passed 2 _ _ e2.1 in
    let e4 = first-passed 3 _ _ e3.1 in
    let e5 = first-passed 4 _ _ e4.1 in
    let e6 = first-passed 5 _ _ e5.1 in
    let e8 = first-passed 7 _ _ e6.1 in
    let e7 = first-passed 6 _ _ e8.1 in
    record {
      is_sound = e1.0;
      nonempty = e2.0;
      short = e3.0;
      known = e4.0;
      length_is = e5.0;
      well_formed = e6.0;
      awaited = e8.0;
      fit = e7.0;
    }

pub accepted_passes : (p : ℕ) (m s : List ℕ) (n : ℕ) (os : List Op) → Accepted p m s n os → first_failed (message_checks p m s n) ≡ 0
accepted_passes p m s n os a =
    passed-message p m s n
    record {
      is_sound = a.is_sound;
      nonempty = le-leb 1 (length s) (omega (arith, a.inside));
      short = le-leb _ _ a.long;
      known = rw a.command;
      length_is = implies_of _ _ (λ _. right-length s a.nonzero a.inside);
      well_formed = implies_of _ _ (λ _. ap is_some a.parsed);
      awaited = implies_of _ _ (λ e. absurd (false≢true (sym (one_type s a.command) ∙ e)));
      fit = rw (handled-command p m s a.command, ops_parsed p s os a.parsed) (fits_closed p n m os a.fit);
    }

pub passes_accepted : (p : ℕ) (m s : List ℕ) (n : ℕ) → is_command s ≡ true → first_failed (message_checks p m s n) ≡ 0 → Accepted p m s n (ops_of p s)
unfolding ops_of
passes_accepted p m s n c e =
    let q = message-passed p m s n e in
    let l = length-right s (implied (is_command s) _ q.length_is c) in
    record {
      is_sound = q.is_sound;
      command = c;
      long = leb-true _ _ q.short;
      nonzero = l.0;
      inside = l.1;
      parsed = some_of (parse p (operations s)) (implied (is_command s) _ q.well_formed c);
      fit = fits_opened p n m (ops_of p s) (ap (fits n) (sym (handled-command p m s c)) ∙ q.fit);
    }

-- what an accepted command's call gives
pub accepted_call : (p : ℕ) (m s room : List ℕ) (os : List Op) → Accepted p m s (length room) os
    → message p m s room ≡ done (complete p (records p m os)) (after p m os) room
unfolding message carried_out
accepted_call p m s room os a =
    ap (located (break_of p (operations s))) (call-done (message_checks p m s (length room)) _ m room (accepted_passes p m s (length room) os a))
    ∙ rw (handled-command p m s a.command, ops_parsed p s os a.parsed)

pub carried_accepted : (p : ℕ) (m s room : List ℕ) → is_command s ≡ true → (message p m s room).number ≡ 0 → Accepted p m s (length room) (ops_of p s)
unfolding message
carried_accepted p m s room c e = passes_accepted p m s (length room) c (call-passed (message_checks p m s (length room)) _ m room e)

-- octets written that fit leave the room as long as it was
pub done-room : (w m room : List ℕ) → length w ≤ length room → length (done w m room).room ≡ length room
done-room w m room h = omega (arith, length-append w (drop (length w) room), length-drop (length w) room)
