-- The two forms on octets: each test said clause by clause (RULES 23.2, 23.3, 23.6), memories that are just in form or just not, and a life in form B.
use Prim.Native.Nat.{ℕ, ◌+◌, ◌*◌, ◌/◌, ◌%◌, ◌≤◌, ◌<◌}
use native.Mathlib.Omega.{arith}
use mathlib.Core.Path.{◌≡◌, refl, sym, ◌∙◌}
use mathlib.Core.Logic.{◌⊎◌}
use mathlib.Core.Bool.{Bool, true, false, ◌&&◌, false≢true}
use mathlib.Core.List.{List, [], ◌∷◌, ◌++◌, map}
use lib.ListN.{length, take, drop, replicate}
use borrow.Author.Tests.{eqb-true, eq-eqb, ne_eqb}
use Rattle.meaning.specs.Octets.{octet, zeros}
use Rattle.meaning.specs.Memory.{present, subscribed, pending, in_flight, bit, flags, sound}
use Rattle.meaning.specs.Profile.{is_release16}
use Rattle.meaning.specs.FormB.{in_form_b, sound_form_b, lent, message, local_value, build, expiry, fresh_checks, make_fresh}
use Rattle.meaning.specs.Moves.{none_in_flight, sound_old, forward_checks, forward, back_checks, back}
use Rattle.meaning.proofs.All.{all}
use Rattle.meaning.proofs.Tests.{and_left, and_right, and_both, not-true}
use Rattle.meaning.proofs.Contents.{flag_bits}
use Rattle.meaning.proofs.Bounded.{Bounds, bounds, within_bounds}
use Rattle.meaning.proofs.Profiles.{in_sound, in_bounded, sound_in_lem}
use Rattle.meaning.proofs.Spelt.{length_at, SoundSpelt, sound_spelt, spelt_sound, body_measures}
use Rattle.meaning.proofs.Flights.{flags-octet}
use Rattle.meaning.proofs.Sendings.{Call, refresh, take_value, build_in, take_expiry}
use Rattle.meaning.proofs.Wording.{two_octets, with_length, reading, subscribing, held_record, failed_record, with_count}
use Rattle.meaning.proofs.Edges.{four, one, two, right, exact, block_of}
use Rattle.meaning.proofs.Laid.{holding, laid, with, fresh-entries, running_block, full}
use Rattle.meaning.proofs.Lives.{Lived, and_then, same_octets, same_results, agrees, Turn, turn, calls, results, command, acknowledgement}
use Rattle.meaning.proofs.Formed.{form_opened, form_closed, gives_lent}
use Rattle.meaning.proofs.Moved.{old_sound, none_out, all_in}

-- ---- form B

-- the bounds of Release 16: 36 entries of 7 octets in the list and in the block that runs, and of the flags of 000B the one that it is present
pub record BoundsSpelt (m : List ℕ) : Type 0 where
  pub list : length_at m 4 ≤ 252
  pub runs : length_at m 18 ≤ 274
  pub unmarked : octet m 44 ≡ 1

bounds_spelt : (m : List ℕ) → sound m ≡ true → Bounds m → BoundsSpelt m
unfolding flags bit
bounds_spelt m s b =
    let e = (sound_spelt m s).entries 7 (omega arith) in
    let none : (q : Bool) → (q ≡ true → subscribed m 7 ≡ true) → q ≡ false = λ q f. not-true q (λ h. false≢true (sym b.unmarked ∙ f h)) in
    record {
      list = omega (arith, body_measures m s 4 (omega arith), b.list);
      runs = omega (arith, body_measures m s 18 (omega arith), b.runs);
      unmarked = flags-octet m s 7 (omega arith) ∙ rw ((sound_spelt m s).list_max_present, b.unmarked, none (pending m 7) (λ h. (e.pending_only h).0), none (in_flight m 7) (λ h. (e.in_flight_only h).0));
    }

spelt_bounds : (m : List ℕ) → sound m ≡ true → BoundsSpelt m → Bounds m
spelt_bounds m s b =
    record {
      list = omega (arith, body_measures m s 4 (omega arith), b.list);
      runs = omega (arith, body_measures m s 18 (omega arith), b.runs);
      unmarked = (flag_bits m 7).1 ∙ rw b.unmarked;
    }

pub record FormSpelt (b : List ℕ) : Type 0 where
  pub long : length b ≡ 2101
  pub first : (octet b 0 ≡ 2) ⊎ (octet b 0 ≡ 3)
  pub memory : SoundSpelt (drop 1 b)
  pub bounds : octet b 0 ≡ 3 → BoundsSpelt (drop 1 b)

pub form_b_spelt : (b : List ℕ) → sound_form_b b ≡ true → FormSpelt b
unfolding sound_form_b is_release16
form_b_spelt b e =
    let f = form_opened b (and_left _ _ e) in
    let m = drop 1 b in
    let i = and_right (in_form_b b) _ e in
    let s = in_sound (octet b 0) m i in
    record {
      long = f.long;
      first = f.first;
      memory = sound_spelt m s;
      bounds = λ r. bounds_spelt m s (bounds (octet b 0) m (in_bounded (octet b 0) m i) (eq-eqb (octet b 0) 3 r));
    }

pub spelt_form_b : (b : List ℕ) → FormSpelt b → sound_form_b b ≡ true
unfolding sound_form_b is_release16
spelt_form_b b f =
    let m = drop 1 b in
    let s = spelt_sound m f.memory in
    and_both (form_closed b record { long = f.long; first = f.first })
    (sound_in_lem (octet b 0) m s (within_bounds (octet b 0) m (λ r. spelt_bounds m s (f.bounds (eqb-true (octet b 0) 3 r)))))

-- ---- the old form: as form B without the octet ahead, and no flag of a cell worth 8 or more

pub record OldSpelt (m : List ℕ) : Type 0 where
  pub memory : SoundSpelt m
  pub flags : (k : ℕ) → k < 19 → octet m (6 * k + 2) < 8

low_flags : (p s q : Bool) → flags p s q false < 8
unfolding flags bit
low_flags true true true = omega arith
low_flags true true false = omega arith
low_flags true false true = omega arith
low_flags true false false = omega arith
low_flags false true true = omega arith
low_flags false true false = omega arith
low_flags false false true = omega arith
low_flags false false false = omega arith

pub old_spelt : (m : List ℕ) → sound_old m ≡ true → OldSpelt m
unfolding sound_old
old_spelt m e =
    let s = old_sound m e in
    record {
      memory = sound_spelt m s;
      flags = λ k h. rw (flags-octet m s k h, none_out m (and_right (sound m) _ e) k h) (low_flags (present m k) (subscribed m k) (pending m k));
    }

pub spelt_old : (m : List ℕ) → OldSpelt m → sound_old m ≡ true
unfolding sound_old
spelt_old m o = and_both (spelt_sound m o.memory) (all_in m (λ k h. (flag_bits m k).3 ∙ ne_eqb (octet m (6 * k + 2) / 8 % 2) 1 (omega (arith, o.flags k h))))

-- ---- memories that are just in form, or just not

-- a full memory that is idle, one that waits, and one that waits with 0001 and the absent 00A3 in flight
unfoldable pub idle : List ℕ
unfolding laid full running_block one two right exact block_of
idle = laid full 0 0

unfoldable pub waits : List ℕ
unfolding laid full running_block one two right exact block_of
waits = laid full 1 4

unfoldable pub flying : List ℕ
unfolding laid with full running_block one two right exact block_of
flying = laid (with 0 (holding 0x0001 11 (replicate 8 0xFF) 8) (with 16 (holding 0x00A3 10 [] 255) full)) 1 0

pub forms_told : map sound_form_b ((2 ∷ idle) ∷ (2 ∷ waits) ∷ (2 ∷ flying) ∷ (1 ∷ idle) ∷ (0 ∷ idle) ∷ (3 ∷ idle) ∷ (255 ∷ idle) ∷ idle ∷ (2 ∷ 2 ∷ idle) ∷ (2 ∷ take 2099 idle) ∷ (2 ∷ idle ++ (0 ∷ [])) ∷ (2 ∷ drop 1 idle) ∷ []
    ∷ [])
    ≡ true ∷ true ∷ true ∷ replicate 10 false
unfolding all in_form_b sound_form_b idle waits flying laid with full running_block one two right exact block_of
forms_told = refl

pub olds_told : map sound_old (idle ∷ waits ∷ flying ∷ (2 ∷ idle) ∷ take 2099 idle ∷ (idle ++ (0 ∷ [])) ∷ []) ≡ true ∷ true ∷ replicate 4 false
unfolding all none_in_flight sound_old idle waits flying laid with full running_block one two right exact block_of
olds_told = refl

-- ---- moves of them, into rooms of the right length and of others

abbrev into : ℕ → List ℕ
into n = replicate n 0xA5

pub forwards_told : map (λ (n : ℕ). (forward waits (into n)).number) (2101 ∷ 2100 ∷ 2102 ∷ 0 ∷ []) ++ map (λ (m : List ℕ). (forward m (into 2101)).number) (idle ∷ flying ∷ (2 ∷ idle) ∷ [])
    ≡ 0 ∷ 16 ∷ 16 ∷ 16 ∷ 0 ∷ 1 ∷ 1 ∷ []
unfolding all none_in_flight sound_old forward_checks forward idle waits flying laid with full running_block one two right exact block_of
forwards_told = refl

pub backs_told : map (λ (n : ℕ). (back (2 ∷ flying) (into n)).number) (2100 ∷ 2101 ∷ 2099 ∷ []) ++ map (λ (b : List ℕ). (back b (into 2100)).number) ((2 ∷ waits) ∷ (2 ∷ idle) ∷ (1 ∷ flying) ∷ idle ∷ [])
    ≡ 17 ∷ 16 ∷ 16 ∷ 0 ∷ 0 ∷ 1 ∷ 1 ∷ []
unfolding all in_form_b sound_form_b none_in_flight back_checks back idle waits flying laid with full running_block one two right exact block_of
backs_told = refl

-- a port that waits is one that waits, after four expiries, in the octets too
pub waiting-moved : (same_octets (forward waits (into 2101)).room (2 ∷ waits) && same_octets (back (2 ∷ waits) (into 2100)).room waits) ≡ true
unfolding all same_octets in_form_b sound_form_b none_in_flight sound_old forward_checks forward back_checks back waits laid with full running_block one two right exact block_of
waiting-moved = refl

-- ---- a life in form B

unfoldable pub lent_life : List ℕ → List Call → Lived
unfolding gives_lent
lent_life b [] = record { results = []; left = b }
lent_life b (c ∷ cs) =
    let o = gives_lent b c in
    and_then o (lent_life o.memory cs)

-- nothing is taken of octets that are not in form B, and FF is no profile in which they could be made fresh
unfoldable pub unformed_turns : List Turn
unfolding command reading with_length two_octets
unformed_turns =
    turn (command (reading 0x0003 ∷ [])) 1 [] ∷ turn (take_value 0x00A4 (0 ∷ 120 ∷ [])) 1 [] ∷ turn (build_in (zeros 1600)) 1 [] ∷ turn take_expiry 1 [] ∷ turn refresh 18 [] ∷ []

abbrev garbage : List ℕ
garbage = replicate 2101 0xFF

pub unformed_life : agrees (lent_life garbage (calls unformed_turns)) (record { results = results unformed_turns; left = garbage }) ≡ true
unfolding all in_form_b lent message local_value build expiry fresh_checks make_fresh gives_lent lent_life unformed_turns command agrees same_octets same_results reading with_length two_octets
unformed_life = refl

-- made fresh they are
unfoldable pub formed_turns : List Turn
unfolding command acknowledgement reading subscribing with_length two_octets held_record failed_record with_count
formed_turns =
    turn (command (subscribing 0x00A4 ∷ subscribing 0x0008 ∷ reading 0x0003 ∷ [])) 0 (2 ∷ 0x71 ∷ with_length (with_count (held_record 0x0003 (0 ∷ []) ∷ []) ++ with_count []))
    ∷ turn (take_value 0x00A4 (0 ∷ 120 ∷ [])) 0 []
    ∷ turn (build_in (zeros 1600)) 0 (3 ∷ with_length (with_count (held_record 0x00A4 (0 ∷ 120 ∷ []) ∷ []) ++ with_count []))
    ∷ turn take_expiry 20 []
    ∷ turn acknowledgement 0 (5 ∷ [])
    ∷ turn (take_value 0x0008 (four 1 2 3 4)) 0 []
    ∷ turn (build_in (zeros 1600)) 0 (3 ∷ with_length (with_count (held_record 0x0008 (four 1 2 3 4) ∷ []) ++ with_count []))
    ∷ []

pub formed_life : agrees (lent_life (make_fresh garbage 2).memory (calls formed_turns))
    (record { results = results formed_turns; left = 2 ∷ laid (with 6 (holding 0x0008 11 (four 1 2 3 4) 4) (with 17 (holding 0x00A4 3 (0 ∷ 120 ∷ []) 2) fresh-entries)) 1 0 })
    ≡ true
unfolding all in_form_b lent message local_value build expiry fresh_checks make_fresh gives_lent lent_life formed_turns command acknowledgement agrees same_octets same_results reading subscribing with_length two_octets held_record failed_record with_count laid with fresh-entries
formed_life = refl
