-- Release 16 on octets: messages into fresh memory of that profile, a life in it, and memories that are just sound in it or just not (RULES 24).
use Prim.Native.Nat.{ℕ}
use mathlib.Core.Path.{◌≡◌, refl}
use mathlib.Core.Bool.{true, false}
use mathlib.Core.List.{List, [], ◌∷◌, ◌++◌, map}
use lib.ListN.{replicate}
use Rattle.meaning.specs.Octets.{zeros, flat}
use Rattle.meaning.specs.Memory.{fresh}
use Rattle.meaning.specs.Profile.{release16}
use Rattle.meaning.specs.Calls.{message}
use Rattle.meaning.specs.FormB.{in_form_b, sound_form_b, fresh_checks, make_fresh}
use Rattle.meaning.specs.Moves.{none_in_flight, back_checks, back}
use Rattle.meaning.proofs.All.{all}
use Rattle.meaning.proofs.Sendings.{take_value, build_in, gives}
use Rattle.meaning.proofs.Contents.{first_names, last_names}
use Rattle.meaning.proofs.Wording.{two_octets, with_length, setting, reading, subscribing, unsubscribing, held_record, short_record, failed_record, with_count}
use Rattle.meaning.proofs.Bench.{Trial, sent, nanoseconds, Result, Example, example, entry, one_over}
use Rattle.meaning.proofs.Edges.{four, one, two, times, right, exact, block_of}
use Rattle.meaning.proofs.Laid.{LaidEntry, holding, laid, with, fresh-entries, running_block, full}
use Rattle.meaning.proofs.Lives.{lived, same_octets, same_results, agrees, Turn, turn, calls, results, command, acknowledgement}
use Rattle.meaning.proofs.Forms.{idle}

-- ---- messages into fresh memory

unfoldable pub given16 : Trial → Result
given16 (sent s) =
    let o = message release16 fresh s (zeros 4096) in
    record { number = o.number; octets = o.written }
given16 (nanoseconds n) = record { number = 0; octets = [] }

-- a command of these operations, and what it gives: a reply of reads, or of sets, with these records
unfoldable asking : List (List ℕ) → ℕ → List ℕ → Example
unfolding with_length two_octets
asking os n r = example (sent (1 ∷ with_length (flat (λ (o : List ℕ). o) os))) n r

unfoldable reads : List (List ℕ) → List (List ℕ) → List ℕ
unfolding with_length two_octets with_count
reads vs es = 0x02 ∷ 0x71 ∷ with_length (with_count vs ++ with_count es)

unfoldable sets : List (List ℕ) → List (List ℕ) → List ℕ
unfolding with_length two_octets with_count
sets us es = 0x02 ∷ 0x72 ∷ with_length (with_count us ++ with_count es)

-- the schedule of examples 6 and 7 of the bench, its length in two octets
unfoldable schedule16 : List ℕ → List (List ℕ)
unfolding setting with_length two_octets entry one_over
schedule16 v =
    setting 0x0004 (zeros 10) ∷ setting 0x0005 (0 ∷ 1 ∷ []) ∷ setting 0x0006 entry ∷ setting 0x0007 (one_over 0x03 0xE8) ∷ setting 0x8001 v ∷ []

unfoldable pub examples16 : List Example
unfolding asking reads sets schedule16 setting reading subscribing with_length two_octets held_record short_record failed_record with_count one times entry one_over
examples16 =
    -- 18 names
    asking ((1 ∷ []) ∷ []) 0 (0x02 ∷ 0x70 ∷ 0x00 ∷ 0x24 ∷ first_names ++ last_names)
    -- 000B is no name, whatever is asked of it
    ∷ asking (reading 0x000B ∷ []) 0 (reads [] (failed_record 0x000B 0x01 ∷ []))
    ∷ asking (setting 0x000B (four 0 0 0 64) ∷ setting 0x000B (zeros 256) ∷ []) 0 (sets [] (failed_record 0x000B 0x01 ∷ failed_record 0x000B 0x01 ∷ []))
    -- 0005 has two octets
    ∷ asking (setting 0x0005 (0 ∷ 64 ∷ []) ∷ []) 0 (sets (short_record 0x0005 (0 ∷ 64 ∷ []) ∷ []) [])
    ∷ asking (setting 0x0005 (0 ∷ 36 ∷ []) ∷ reading 0x0005 ∷ []) 0
    (0x02 ∷ 0x71 ∷ with_length (with_count (held_record 0x0005 (0 ∷ 36 ∷ []) ∷ []) ++ with_count [])
    ++ (0x72 ∷ with_length (with_count (short_record 0x0005 (0 ∷ 36 ∷ []) ∷ []) ++ with_count [])))
    ∷ asking (map (setting 0x0005) (four 0 0 0 1 ∷ (0 ∷ 65 ∷ []) ∷ (1 ∷ 0 ∷ []) ∷ [] ∷ (1 ∷ []) ∷ (0 ∷ 0 ∷ 1 ∷ []) ∷ [])) 0 (sets [] (replicate 6 (failed_record 0x0005 0x02)))
    -- codes 6 to 9 are malformed
    ∷ asking ((6 ∷ 0 ∷ 3 ∷ 0 ∷ 0 ∷ []) ∷ []) 6 []
    ∷ asking (reading 0x0003 ∷ (9 ∷ 0 ∷ 3 ∷ 0 ∷ 0 ∷ []) ∷ []) 6 []
    -- more than 255 octets, before the value's rule and behind the name
    ∷ asking (setting 0x0042 (zeros 255) ∷ setting 0x0042 (zeros 256) ∷ setting 0x8001 (zeros 256) ∷ setting 0x0005 (zeros 256) ∷ setting 0x0002 (zeros 256) ∷ []) 0
    (sets (short_record 0x0042 (zeros 255) ∷ []) (failed_record 0x0042 0x6F ∷ failed_record 0x8001 0x6F ∷ failed_record 0x0005 0x6F ∷ failed_record 0x0002 0x01 ∷ []))
    -- 36 entries and 37
    ∷ asking (setting 0x0006 (times 36 one) ∷ setting 0x0006 (times 37 one) ∷ []) 0 (sets (short_record 0x0006 (times 36 one) ∷ []) (failed_record 0x0006 0x6F ∷ []))
    -- an absent value
    ∷ asking (reading 0x0004 ∷ reading 0x8001 ∷ reading 0x0002 ∷ []) 0 (reads [] (failed_record 0x0004 0x6F ∷ failed_record 0x8001 0x6F ∷ failed_record 0x0002 0x01 ∷ []))
    -- a schedule: its sums are those of four octets of length
    ∷ asking (schedule16 (0x02 ∷ 0x82 ∷ 0x13 ∷ 0xB5 ∷ [])) 0
    (sets (short_record 0x0004 (zeros 10) ∷ short_record 0x0005 (0 ∷ 1 ∷ []) ∷ short_record 0x0006 entry ∷ short_record 0x0007 (one_over 0x03 0xE8) ∷ short_record 0x8001 (0x02 ∷ 0x82 ∷ 0x13 ∷ 0xB5 ∷ []) ∷ []) [])
    ∷ []

pub bench16 : map (λ (e : Example). given16 e.trial) examples16 ≡ map (λ (e : Example). e.wanted) examples16
unfolding all given16 examples16 asking reads sets schedule16 setting reading subscribing with_length two_octets held_record short_record failed_record with_count one times entry one_over
bench16 = refl

-- ---- a life: marks of 000B are not set, an absent value is told with 6F, and the schedule that runs is read

unfoldable pub sixteen_turns : List Turn
unfolding command acknowledgement reads sets schedule16 setting reading subscribing unsubscribing with_length two_octets held_record short_record failed_record with_count one times entry one_over
sixteen_turns =
    turn (command (subscribing 0x000B ∷ subscribing 0x00A1 ∷ unsubscribing 0x000B ∷ subscribing 0x000B ∷ [])) 0 (2 ∷ [])
    ∷ turn (command (schedule16 (0x02 ∷ 0x82 ∷ 0x13 ∷ 0xB5 ∷ []))) 0
    (sets (short_record 0x0004 (zeros 10) ∷ short_record 0x0005 (0 ∷ 1 ∷ []) ∷ short_record 0x0006 entry ∷ short_record 0x0007 (one_over 0x03 0xE8) ∷ short_record 0x8001 (0x02 ∷ 0x82 ∷ 0x13 ∷ 0xB5 ∷ []) ∷ []) [])
    ∷ turn (take_value 0x00A1 (9 ∷ [])) 0 []
    ∷ turn (take_value 0x000B (four 0 0 0 64)) 12 []
    ∷ turn (build_in (zeros 1600)) 0 (3 ∷ with_length (with_count (held_record 0x00A1 (9 ∷ []) ∷ []) ++ with_count []))
    ∷ turn acknowledgement 0 (5 ∷ [])
    ∷ turn (take_value 0x00A1 []) 0 []
    ∷ turn (build_in (zeros 1600)) 0 (3 ∷ with_length (with_count [] ++ with_count (failed_record 0x00A1 0x6F ∷ [])))
    ∷ turn (command (setting 0x0005 (0 ∷ 9 ∷ []) ∷ reading 0x0005 ∷ reading 0x8001 ∷ reading 0x00A1 ∷ [])) 0
    (0x02 ∷ 0x71 ∷ with_length (with_count (held_record 0x0005 (0 ∷ 9 ∷ []) ∷ held_record 0x8001 (0x02 ∷ 0x82 ∷ 0x13 ∷ 0xB5 ∷ []) ∷ []) ++ with_count (failed_record 0x00A1 0x6F ∷ []))
    ++ (0x72 ∷ with_length (with_count (short_record 0x0005 (0 ∷ 9 ∷ []) ∷ []) ++ with_count [])))
    ∷ []

-- in memory and in the block the length has four octets
unfoldable pub sixteen_entries : List LaidEntry
unfolding fresh-entries with entry one_over block_of
sixteen_entries =
    with 2 (holding 0x0004 1 (zeros 10) 10)
    (with 3 (holding 0x0005 1 (four 0 0 0 9) 4)
    (with 4 (holding 0x0006 1 entry 448)
    (with 5 (holding 0x0007 1 (one_over 0x03 0xE8) 8)
    (with 14 (holding 0x00A1 10 [] 255) (with 18 (holding 0x8001 1 (block_of (zeros 10) (four 0 0 0 1) entry (one_over 0x03 0xE8)) 470) fresh-entries)))))

pub sixteen_life : agrees (lived release16 fresh (calls sixteen_turns)) (record { results = results sixteen_turns; left = laid sixteen_entries 1 0 }) ≡ true
unfolding all gives agrees same_octets same_results lived sixteen_turns sixteen_entries command acknowledgement reads sets schedule16 setting reading subscribing unsubscribing with_length two_octets held_record short_record failed_record with_count one times entry one_over block_of laid with fresh-entries
sixteen_life = refl

-- ---- memories that are just sound in Release 16, or just not: marks of 000B, 36 entries and 37, in the list and in the block that runs

abbrev entries16 : List LaidEntry
entries16 = with 7 (holding 0x000B 1 (four 0 0 0 64) 4) full

unfoldable pub listing : ℕ → List ℕ
unfolding times one two right exact block_of running_block full with laid
listing n = laid (with 4 (holding 0x0006 1 (times n one) 448) entries16) 0 0

unfoldable pub runs_of : ℕ → List ℕ
unfolding times one two right exact block_of running_block full with laid
runs_of n = laid (with 18 (holding 0x8001 1 (block_of right (four 0 0 0 n) (times n one) (four 0 0 0 n ++ four 0x3B 0x9A 0xCA 0x00)) 470) entries16) 0 0

pub bounds_told : map sound_form_b ((3 ∷ laid entries16 0 0) ∷ (3 ∷ listing 36) ∷ (3 ∷ runs_of 36) ∷ (2 ∷ listing 37) ∷ (2 ∷ runs_of 37) ∷ (2 ∷ idle) ∷ (3 ∷ listing 37) ∷ (3 ∷ runs_of 37) ∷ (3 ∷ idle) ∷ (4 ∷ listing 36) ∷ (1 ∷ listing 36) ∷ [])
    ≡ replicate 6 true ++ replicate 5 false
unfolding all in_form_b sound_form_b listing runs_of idle times one two right exact block_of running_block full with laid
bounds_told = refl

-- waiting, with 0001 in flight
unfoldable pub flying16 : List ℕ
unfolding laid with full running_block one two right exact block_of
flying16 = laid (with 0 (holding 0x0001 11 (replicate 8 0xFF) 8) entries16) 1 0

-- ---- making fresh in each profile and in none, and the move back, which is for Release 18 alone

pub fresh-told : map (λ (q : ℕ). (make_fresh (replicate 2101 0xFF) q).number) (2 ∷ 3 ∷ 0 ∷ 1 ∷ 4 ∷ 255 ∷ []) ++ map (λ (q : ℕ). (make_fresh (replicate 2100 0xFF) q).number) (2 ∷ 3 ∷ 4 ∷ [])
    ≡ 0 ∷ 0 ∷ 18 ∷ 18 ∷ 18 ∷ 18 ∷ 1 ∷ 1 ∷ 1 ∷ []
unfolding all fresh_checks make_fresh
fresh-told = refl

pub backs16_told : map (λ (n : ℕ). (back (3 ∷ listing 36) (replicate n 0xA5)).number) (2100 ∷ 2101 ∷ []) ++ map (λ (b : List ℕ). (back b (replicate 2100 0xA5)).number) ((3 ∷ flying16) ∷ (3 ∷ listing 37) ∷ (2 ∷ flying16) ∷ [])
    ≡ 19 ∷ 16 ∷ 19 ∷ 1 ∷ 17 ∷ []
unfolding all in_form_b sound_form_b none_in_flight back_checks back listing times one two right exact block_of running_block full with laid flying16
backs16_told = refl
