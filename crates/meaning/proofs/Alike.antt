-- Where a command touches nothing that the profiles differ in, both give the same number, the same reply and the same memory (RULES 24.12).
use Prim.Native.Nat.{ℕ, ◌+◌, ◌≤◌}
use native.Mathlib.Omega.{arith}
use mathlib.Core.Path.{◌≡◌, refl, sym, ap, ◌∙◌}
use mathlib.Core.Logic.{◌≢◌, inl, inr}
use mathlib.Core.Bool.{Bool, true, false, false≢true}
use mathlib.Core.List.{List, [], ◌∷◌, append-nil}
use mathlib.Core.Option.{some}
use lib.ListN.{length, drop}
use borrow.Author.Tests.{le-leb, ne_eqb}
use Rattle.meaning.specs.Octets.{octet, flat, implies}
use Rattle.meaning.specs.Checks.{first_failed, when_passed}
use Rattle.meaning.specs.Table.{row_at, rows, place, admin_control_list_length, supported_list_max}
use Rattle.meaning.specs.Memory.{present, body}
use Rattle.meaning.specs.Profile.{release18, release16, is_profile, is_release16, lists, listed, spared, on_wire, in_memory, sendable, sound_in}
use Rattle.meaning.specs.Operation.{Op, capabilities, read, set, subscribe, unsubscribe, selective_read, selective_subscribe, selective_unsubscribe, delete_entry, parse, broken, break_of}
use Rattle.meaning.specs.Step.{read_checks, read_answer, shown, permitted, set_checks, set_answer, stored, set_memory, subscribe_memory, unsubscribe_memory, step, answer, after, answers}
use Rattle.meaning.specs.Reply.{Records, joined, gathered, record_of, element, complete}
use Rattle.meaning.specs.Calls.{is_command, operations, length_field, ops_of, records, carried_out, handled, message_checks, message}
use Rattle.meaning.specs.FormB as lent
use Rattle.meaning.proofs.Lists.{Each, Octets, octets-part}
use Rattle.meaning.proofs.Profiles.{in_sound, sound_in_lem}
use Rattle.meaning.proofs.Bounded.{bounded_18}
use Rattle.meaning.proofs.Places.{listed-place}
use Rattle.meaning.proofs.Running.{place-name}
use Rattle.meaning.proofs.Answered.{Answered, end, lists_names, reads_value, reads_unlisted, reads_absent, sets_short, sets_long, sets_unlisted, sets_foreign, sets_too_long, sets_wrong, subscribes, unsubscribes, reads_selected, subscribes_selected, unsubscribes_selected, deletes_entry, answered}
use Rattle.meaning.proofs.Encode.{encode, Fine, parse_encoded, parse_spelt}
use Rattle.meaning.proofs.Breaks.{Unreadable, broken-behind, Breaks}
use Rattle.meaning.proofs.Numbers.{Measured}
use Rattle.meaning.proofs.Positions.{breaks_message}
use Rattle.meaning.proofs.Formed.{message-behind}

-- ---- what a command must not touch

-- neither 0005 nor 000B
abbrev pub Spared : ℕ → Type 0
Spared n = (n ≢ 0x0005) × (n ≢ 0x000B)

-- the operations on the memory m, each on what those before it leave: no get capabilities, no code above 5, neither of the two names, no set of more than 255
-- octets, no read of an absent value
abbrev pub Untouched : List ℕ → List Op → Type 0
Untouched m [] = Unit {0}
Untouched m (capabilities ∷ os) = ⊥
Untouched m (read n ∷ os) = Spared n × (place n ≤ 18 → present m (place n) ≡ true) × Untouched m os
Untouched m (set n v ∷ os) = Spared n × (length v ≤ 255) × Untouched (step release18 m (set n v)) os
Untouched m (subscribe n ∷ os) = Spared n × Untouched (step release18 m (subscribe n)) os
Untouched m (unsubscribe n ∷ os) = Spared n × Untouched (step release18 m (unsubscribe n)) os
Untouched m (selective_read n v ∷ os) = ⊥
Untouched m (selective_subscribe n v ∷ os) = ⊥
Untouched m (selective_unsubscribe n v ∷ os) = ⊥
Untouched m (delete_entry n v ∷ os) = ⊥

-- ---- one operation

-- an operation that both profiles have, and whose answer is no list of names
abbrev Plain : Op → Type 0
Plain capabilities = ⊥
Plain (read n) = Unit {0}
Plain (set n v) = Unit {0}
Plain (subscribe n) = Unit {0}
Plain (unsubscribe n) = Unit {0}
Plain (selective_read n v) = ⊥
Plain (selective_subscribe n v) = ⊥
Plain (selective_unsubscribe n v) = ⊥
Plain (delete_entry n v) = ⊥

module _ (n : ℕ) (s : Spared n) where
  not_length : place n ≢ admin_control_list_length
  unfolding row_at rows
  not_length e = s.0 (sym (place-name n (omega (arith, e))) ∙ ap (λ (k : ℕ). (row_at k).name) e)

  not_most : place n ≢ supported_list_max
  unfolding row_at rows
  not_most e = s.1 (sym (place-name n (omega (arith, e))) ∙ ap (λ (k : ℕ). (row_at k).name) e)

  listed_alike : listed release16 n ≡ listed release18 n
  unfolding listed lists is_release16
  listed_alike = rw (ne_eqb (place n) supported_list_max not_most)

  none_spared : (spared release16 (place n) ≡ 0) × (spared release18 (place n) ≡ 0)
  unfolding spared is_release16
  none_spared = (rw (ne_eqb (place n) admin_control_list_length not_length), refl)

  wire_alike : (v : List ℕ) → on_wire release16 (place n) v ≡ on_wire release18 (place n) v
  unfolding on_wire
  wire_alike v = rw (none_spared.0, none_spared.1)

  memory_alike : (v : List ℕ) → in_memory release16 (place n) v ≡ in_memory release18 (place n) v
  unfolding in_memory
  memory_alike v = rw (none_spared.0, none_spared.1)

read_alike : (m : List ℕ) (n : ℕ) → Spared n → (place n ≤ 18 → present m (place n) ≡ true) → read_answer release16 m n ≡ read_answer release18 m n
unfolding read_answer read_checks first_failed when_passed shown
read_alike m n s h = go (listed release18 n) refl
  where
    go : (b : Bool) → listed release18 n ≡ b → read_answer release16 m n ≡ read_answer release18 m n
    go true e =
        let there = h (omega (arith, listed-place release18 n e)) in
        rw (listed_alike n s, e, there, wire_alike n s (body m (place n)))
    go false e = rw (listed_alike n s, e)

checks_alike : (m : List ℕ) (n : ℕ) (v : List ℕ) → Spared n → length v ≤ 255 → set_checks release16 m n v ≡ set_checks release18 m n v
unfolding set_checks permitted sendable is_release16 implies
checks_alike m n v s h = rw (listed_alike n s, le-leb (length v) 255 h, memory_alike n s v)

set_alike : (m : List ℕ) (n : ℕ) (v : List ℕ) → Spared n → length v ≤ 255
    → (set_memory release16 m n v ≡ set_memory release18 m n v) × (set_answer release16 m n v ≡ set_answer release18 m n v)
unfolding set_memory set_answer stored
set_alike m n v s h = (rw (checks_alike m n v s h, memory_alike n s v), rw (checks_alike m n v s h))

-- what holds of an operation and of those behind it
record Same (m : List ℕ) (o : Op) (os : List Op) : Type 0 where
  memory : step release16 m o ≡ step release18 m o
  answers : answer release16 m o ≡ answer release18 m o
  plain : Plain o
  behind : Untouched (step release18 m o) os

same : (m : List ℕ) (o : Op) (os : List Op) → Untouched m (o ∷ os) → Same m o os
unfolding step answer subscribe_memory unsubscribe_memory
same m capabilities os u = absurd u
same m (read n) os u = record { memory = refl; answers = read_alike m n u.0 u.1; plain = tt; behind = u.2 }
same m (set n v) os u = let e = set_alike m n v u.0 u.1 in record { memory = e.0; answers = e.1; plain = tt; behind = u.2 }
same m (subscribe n) os u = record { memory = rw (listed_alike n u.0); answers = refl; plain = tt; behind = u.1 }
same m (unsubscribe n) os u = record { memory = rw (listed_alike n u.0); answers = refl; plain = tt; behind = u.1 }
same m (selective_read n v) os u = absurd u
same m (selective_subscribe n v) os u = absurd u
same m (selective_unsubscribe n v) os u = absurd u
same m (delete_entry n v) os u = absurd u

-- ---- all of them

after_alike : (m : List ℕ) (os : List Op) → Untouched m os → after release16 m os ≡ after release18 m os
unfolding after
after_alike m [] u = refl
after_alike m (o ∷ os) u = let e = same m o os u in rw e.memory (after_alike (step release18 m o) os e.behind)

records_alike : (m : List ℕ) (os : List Op) → Untouched m os → records release16 m os ≡ records release18 m os
unfolding records answers gathered
records_alike m [] u = refl
records_alike m (o ∷ os) u =
    let e = same m o os u in
    rw (e.answers, e.memory) (ap (joined (record_of (answer release18 m o))) (records_alike (step release18 m o) os e.behind))

all_plain : (m : List ℕ) (os : List Op) → Untouched m os → Each Plain os
all_plain m [] u = tt
all_plain m (o ∷ os) u = let e = same m o os u in (e.plain, all_plain (step release18 m o) os e.behind)

-- no list of names, so the reply has no element that differs
no_names : {m : List ℕ} {os : List Op} {r : Records} → Answered release18 m os r → Each Plain os → r.capabilities ≡ false
no_names end f = refl
no_names (lists_names a) f = absurd f.0
no_names (reads_value e h a) f = no_names a f.1
no_names (reads_unlisted e a) f = no_names a f.1
no_names (reads_absent e h a) f = no_names a f.1
no_names (sets_short t h a) f = no_names a f.1
no_names (sets_long t h a) f = no_names a f.1
no_names (sets_unlisted e a) f = no_names a f.1
no_names (sets_foreign e h a) f = no_names a f.1
no_names (sets_too_long e h l a) f = no_names a f.1
no_names (sets_wrong e h l g a) f = no_names a f.1
no_names (subscribes a) f = no_names a f.1
no_names (unsubscribes a) f = no_names a f.1
no_names (reads_selected a) f = absurd f.0
no_names (subscribes_selected a) f = absurd f.0
no_names (unsubscribes_selected a) f = absurd f.0
no_names (deletes_entry a) f = absurd f.0

complete_alike : (r : Records) → r.capabilities ≡ false → complete release16 r ≡ complete release18 r
unfolding complete element
complete_alike r e = rw e

carried_alike : (m : List ℕ) (os : List Op) → Untouched m os → carried_out release16 m os ≡ carried_out release18 m os
unfolding carried_out
carried_alike m os u =
    rw (records_alike m os u, after_alike m os u, complete_alike (records release18 m os) (no_names (answered release18 m os) (all_plain m os u)))

-- ---- the command

plain_fine : (os : List Op) → Each Plain os → Each (Fine release18) os → Each (Fine release16) os
plain_fine [] p f = tt
plain_fine (capabilities ∷ os) p f = absurd p.0
plain_fine (read n ∷ os) p f = (f.0, plain_fine os p.1 f.1)
plain_fine (set n v ∷ os) p f = (f.0, plain_fine os p.1 f.1)
plain_fine (subscribe n ∷ os) p f = (f.0, plain_fine os p.1 f.1)
plain_fine (unsubscribe n ∷ os) p f = (f.0, plain_fine os p.1 f.1)
plain_fine (selective_read n v ∷ os) p f = absurd p.0
plain_fine (selective_subscribe n v ∷ os) p f = absurd p.0
plain_fine (selective_unsubscribe n v ∷ os) p f = absurd p.0
plain_fine (delete_entry n v ∷ os) p f = absurd p.0

-- memory that is sound in Release 16 is so in Release 18
pub sound_both : (m : List ℕ) → sound_in release16 m ≡ true → sound_in release18 m ≡ true
unfolding is_release16
sound_both m s = sound_in_lem release18 m (in_sound release16 m s) (bounded_18 release18 m refl)

-- a whole list has nothing broken
break_whole : (p : ℕ) (t : List ℕ) (os : List Op) → t ≡ flat encode os → Each (Fine p) os → break_of p t ≡ 3 + length t
unfolding break_of
break_whole p t os e f =
    let b : broken p t ≡ [] = ap (broken p) (e ∙ sym (append-nil (flat encode os))) ∙ broken-behind p os [] f refl in
    omega (arith, ap length b)

pub untouched_alike : (m s room : List ℕ) (os : List Op) → sound_in release16 m ≡ true → Octets s → is_command s ≡ true → parse release18 (operations s) ≡ some os → Untouched m os
    → message release16 m s room ≡ message release18 m s room
unfolding message message_checks handled ops_of
untouched_alike m s room os i o c e u =
    let t = operations s in
    let w = parse_spelt release18 t os (unfold operations in octets-part s 3 (length_field s) o) e in
    let f = plain_fine os (all_plain m os u) w.1 in
    let e' : parse release16 t ≡ some os = ap (parse release16) w.0 ∙ parse_encoded release16 os f in
    rw (i, sound_both m i, break_whole release16 t os w.0 f, break_whole release18 t os w.0 w.1, e', e, c, carried_alike m os u)

-- ---- a command that breaks, at a code that both have, and whatever is no command

-- what cannot be read in Release 16 at a code up to 5 cannot be read in Release 18
low_unreadable : (c : ℕ) (s : List ℕ) → c ≤ 5 → Unreadable release16 (c ∷ s) → Unreadable release18 (c ∷ s)
low_unreadable c s h (inl (inl e)) = inl (inl e)
low_unreadable c s h (inl (inr (inl e))) = inl (inr (inl e))
low_unreadable c s h (inl (inr (inr e))) = absurd (omega (arith, h, e.1))
low_unreadable c s h (inr e) = inr e

-- operations of Release 16 are such of Release 18
fine_both : (os : List Op) → Each (Fine release16) os → Each (Fine release18) os
unfolding is_release16
fine_both [] f = tt
fine_both (capabilities ∷ os) f = (tt, fine_both os f.1)
fine_both (read n ∷ os) f = (f.0, fine_both os f.1)
fine_both (set n v ∷ os) f = (f.0, fine_both os f.1)
fine_both (subscribe n ∷ os) f = (f.0, fine_both os f.1)
fine_both (unsubscribe n ∷ os) f = (f.0, fine_both os f.1)
fine_both (selective_read n v ∷ os) f = absurd (false≢true (sym f.0.2))
fine_both (selective_subscribe n v ∷ os) f = absurd (false≢true (sym f.0.2))
fine_both (selective_unsubscribe n v ∷ os) f = absurd (false≢true (sym f.0.2))
fine_both (delete_entry n v ∷ os) f = absurd (false≢true (sym f.0.2))

pub broken_alike : (m s room : List ℕ) (q : ℕ) → sound_in release16 m ≡ true → Measured release16 m s → (b : Breaks release16 (operations s) q) → octet b.left 0 ≤ 5
    → message release16 m s room ≡ message release18 m s room
broken_alike m s room q i l b h =
    let d : Breaks release18 (operations s) q =
    record { ahead = b.ahead; fine = fine_both b.ahead b.fine; left = b.left; split = b.split; at = b.at; here = go b.left h b.here } in
    let l18 : Measured release18 m s =
    record { taken = record { is_sound = sound_both m i; nonzero = l.taken.nonzero; short = l.taken.short }; type = l.type; there = l.there; not_zero = l.not_zero; inside = l.inside } in
    breaks_message release16 m s room q l b ∙ sym (breaks_message release18 m s room q l18 d)
  where
    go : (u : List ℕ) → octet u 0 ≤ 5 → Unreadable release16 u → Unreadable release18 u
    go [] k r = r
    go (c ∷ u) k r = low_unreadable c u k r

pub other_alike : (m s room : List ℕ) → sound_in release16 m ≡ true → is_command s ≡ false
    → let a = message release16 m s room in
    let b = message release18 m s room in
    (a.number ≡ b.number) × (a.written ≡ b.written) × (a.memory ≡ b.memory)
unfolding message message_checks handled implies
other_alike m s room i c = rw (i, sound_both m i, c) (refl, refl, refl)

-- ---- so on what a host lends, where only the profile itself differs

pub lent_alike : (m s room : List ℕ) (os : List Op) → sound_in 3 m ≡ true → Octets s → is_command s ≡ true → parse 2 (operations s) ≡ some os → Untouched m os
    → ((lent.message (3 ∷ m) s room).number ≡ (lent.message (2 ∷ m) s room).number) × ((lent.message (3 ∷ m) s room).written ≡ (lent.message (2 ∷ m) s room).written)
    × (drop 1 (lent.message (3 ∷ m) s room).memory ≡ drop 1 (lent.message (2 ∷ m) s room).memory)
unfolding is_profile
lent_alike m s room os i o c e u =
    rw (message-behind 3 refl m s room, message-behind 2 refl m s room, untouched_alike m s room os i o c e u) (refl, refl, refl)
