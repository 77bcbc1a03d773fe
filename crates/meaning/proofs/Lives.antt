-- Lives of a port, call by call: what each call returns and writes, spelt in octets, and all of memory at the end.
use Prim.Native.Nat.{ℕ}
use mathlib.Core.Path.{◌≡◌, refl}
use mathlib.Core.Bool.{Bool, true, false, ◌&&◌}
use mathlib.Core.List.{List, [], ◌∷◌, ◌++◌, map}
use lib.ListN.{replicate}
use lib.Dec.{eqb}
use Rattle.meaning.specs.Octets.{flat, zeros}
use Rattle.meaning.specs.Memory.{fresh}
use Rattle.meaning.specs.Profile.{release18}
use Rattle.meaning.specs.Calls.{Outcome}
use Rattle.meaning.proofs.All.{all}
use Rattle.meaning.proofs.Sendings.{Call, refresh, take_message, take_value, build_in, take_expiry, gives}
use Rattle.meaning.proofs.Wording.{two_octets, with_length, reading, setting, subscribing, unsubscribing, like_set, held_record, short_record, failed_record, with_count}
use Rattle.meaning.proofs.Bench.{Result, table_names}
use Rattle.meaning.proofs.Edges.{four, one, two, times, right, exact, block_of}
use Rattle.meaning.proofs.Laid.{LaidEntry, holding, laid, with, fresh-entries, running_block, full}

-- ---- calls, and what comes of them

-- what some calls give one after another, each on the memory that those before it left, and the memory at the end
pub record Lived : Type 0 where
  pub results : List Result
  pub left : List ℕ

abbrev pub and_then : Outcome → Lived → Lived
and_then o l = record { results = record { number = o.number; octets = o.written } ∷ l.results; left = l.left }

unfoldable pub lived : (p : ℕ) → List ℕ → List Call → Lived
lived p m [] = record { results = []; left = m }
lived p m (c ∷ cs) =
    let o = gives p m c in
    and_then o (lived p o.memory cs)

-- whether two lives are alike, octet by octet. A statement over it is short also where it is false, which a list of 2,100 octets is not
unfoldable pub same_octets : List ℕ → List ℕ → Bool
same_octets [] [] = true
same_octets [] (y ∷ ys) = false
same_octets (x ∷ xs) [] = false
same_octets (x ∷ xs) (y ∷ ys) = eqb x y && same_octets xs ys

unfoldable pub same_results : List Result → List Result → Bool
unfolding same_octets
same_results [] [] = true
same_results [] (y ∷ ys) = false
same_results (x ∷ xs) [] = false
same_results (x ∷ xs) (y ∷ ys) = eqb x.number y.number && (same_octets x.octets y.octets && same_results xs ys)

unfoldable pub agrees : Lived → Lived → Bool
unfolding same_octets same_results
agrees l w = same_results l.results w.results && same_octets l.left w.left

-- a call, the number that it returns and the octets that it writes
pub record Turn : Type 0 where
  pub call : Call
  pub wanted : Result

abbrev pub turn : Call → ℕ → List ℕ → Turn
turn c n s = record { call = c; wanted = record { number = n; octets = s } }

abbrev pub calls : List Turn → List Call
calls ts = map (λ (t : Turn). t.call) ts

abbrev pub results : List Turn → List Result
results ts = map (λ (t : Turn). t.wanted) ts

-- a command of these operations, with room for its reply
unfoldable pub command : List (List ℕ) → Call
unfolding two_octets with_length
command os = take_message (1 ∷ with_length (flat (λ (o : List ℕ). o) os)) (zeros 600)

unfoldable pub acknowledgement : Call
acknowledgement = take_message (4 ∷ []) (zeros 1)

-- ---- what a controller does

-- the sums of the block of `one` and `two`
abbrev sums_of_both : List ℕ
sums_of_both = four 0x0C 0x46 0x37 0xC5

unfoldable pub controlled : List Turn
unfolding command subscribing setting reading with_length two_octets held_record short_record failed_record with_count one two times right exact
controlled =
    turn (command (subscribing 0x0003 ∷ setting 0x0003 (1 ∷ []) ∷ setting 0x0002 (1 ∷ []) ∷ setting 0x0001 (zeros 8) ∷ setting 0x000B (four 0 0 0 64)
    ∷ setting 0x0003 (2 ∷ [])
    ∷ setting 0x0005 (four 1 0 0 0)
    ∷ reading 0x0003
    ∷ reading 0x0004
    ∷ reading 0x0002
    ∷ [])) 0
    (0x02 ∷ 0x71 ∷ with_length (with_count (held_record 0x0003 (1 ∷ []) ∷ []) ++ with_count (failed_record 0x0004 3 ∷ failed_record 0x0002 1 ∷ []))
    ++ (0x72
    ∷ with_length (with_count (short_record 0x0003 (1 ∷ []) ∷ [])
    ++ with_count (failed_record 0x0002 1 ∷ failed_record 0x0001 0x6F ∷ failed_record 0x000B 0x6F ∷ failed_record 0x0003 2 ∷ failed_record 0x0005 2 ∷ []))))
    ∷ turn (command (setting 0x8001 (zeros 4) ∷ setting 0x0004 right ∷ setting 0x0005 (four 0 0 0 2) ∷ setting 0x0006 (one ++ two)
    ∷ setting 0x0007 exact
    ∷ setting 0x8001 (zeros 4)
    ∷ setting 0x8001 sums_of_both
    ∷ reading 0x8001
    ∷ [])) 0
    (0x02 ∷ 0x71 ∷ with_length (with_count (held_record 0x8001 sums_of_both ∷ []) ++ with_count [])
    ++ (0x72
    ∷ with_length (with_count (short_record 0x0004 right ∷ short_record 0x0005 (four 0 0 0 2) ∷ short_record 0x0006 (one ++ two) ∷ short_record 0x0007 exact ∷ short_record 0x8001 sums_of_both ∷ [])
    ++ with_count (failed_record 0x8001 2 ∷ failed_record 0x8001 2 ∷ []))))
    ∷ turn (command (setting 0x0006 one ∷ setting 0x8001 (four 0x0B 0x3F 0xE7 0x10) ∷ setting 0x0005 (zeros 4) ∷ setting 0x0006 []
    ∷ setting 0x8001 (four 0x0A 0x38 0x9D 0x8D)
    ∷ reading 0x8001
    ∷ reading 0x0006
    ∷ [])) 0
    (0x02 ∷ 0x71 ∷ with_length (with_count (held_record 0x8001 sums_of_both ∷ held_record 0x0006 [] ∷ []) ++ with_count [])
    ++ (0x72
    ∷ with_length (with_count (short_record 0x0006 one ∷ short_record 0x0005 (zeros 4) ∷ short_record 0x0006 [] ∷ []) ++ with_count (failed_record 0x8001 2 ∷ failed_record 0x8001 2 ∷ []))))
    ∷ turn (command (setting 0x0006 (times 36 one) ∷ [])) 0 (0x02 ∷ 0x72 ∷ with_length (with_count (short_record 0x0006 (times 36 one) ∷ []) ++ with_count []))
    ∷ turn (command (setting 0x0006 (times 37 two) ∷ [])) 0
    (0x02 ∷ 0x72 ∷ with_length (with_count [] ++ (with_count [] ++ with_length (held_record 0x0006 (times 37 two)))))
    ∷ turn (command (setting 0x0002 [] ∷ [])) 0 (0x02 ∷ 0x72 ∷ with_length (with_count [] ++ with_count (failed_record 0x0002 1 ∷ [])))
    ∷ []

-- the block that runs is the one that was committed
unfoldable pub controlled_entries : List LaidEntry
unfolding fresh-entries with one two times right exact block_of
controlled_entries =
    with 1 (holding 0x0003 3 (1 ∷ []) 1)
    (with 2 (holding 0x0004 1 right 10)
    (with 3 (holding 0x0005 1 (zeros 4) 4)
    (with 4 (holding 0x0006 1 (times 37 two) 448)
    (with 5 (holding 0x0007 1 exact 8)
    (with 18 (holding 0x8001 1 (block_of right (four 0 0 0 2) (one ++ two) exact) 470) fresh-entries)))))

pub controlled_life : agrees (lived release18 fresh (calls controlled)) (record { results = results controlled; left = laid controlled_entries 0 0 }) ≡ true
unfolding all gives agrees same_octets same_results lived controlled command subscribing setting reading with_length two_octets held_record short_record failed_record with_count one two times right exact block_of laid with fresh-entries controlled_entries
controlled_life = refl

-- ---- what a port's own values do

unfoldable pub reported : List Turn
unfolding command acknowledgement reading subscribing unsubscribing with_length two_octets held_record failed_record with_count
reported =
    turn (command (subscribing 0x0008 ∷ subscribing 0x00A1 ∷ subscribing 0x00A4 ∷ subscribing 0x0002 ∷ [])) 0 (2 ∷ [])
    ∷ turn (take_value 0x0008 (four 1 2 3 4)) 0 []
    ∷ turn (take_value 0x00A1 []) 0 []
    ∷ turn (take_value 0x00A4 (0 ∷ 120 ∷ [])) 0 []
    ∷ turn (take_value 0x00A4 (0 ∷ 120 ∷ [])) 0 []
    ∷ turn (take_value 0x00A3 (7 ∷ 8 ∷ 9 ∷ [])) 0 []
    ∷ turn (take_value 0x0003 (1 ∷ [])) 12 []
    ∷ turn (take_value 0x0008 (1 ∷ 2 ∷ 3 ∷ [])) 12 []
    ∷ turn (build_in (zeros 1599)) 11 []
    ∷ turn (build_in (zeros 1600)) 0
    (3 ∷ with_length (with_count (held_record 0x0008 (four 1 2 3 4) ∷ held_record 0x00A4 (0 ∷ 120 ∷ []) ∷ []) ++ with_count []))
    ∷ turn (build_in (zeros 1600)) 10 []
    ∷ turn (command (reading 0x0008 ∷ [])) 0 (2 ∷ 0x71 ∷ with_length (with_count (held_record 0x0008 (four 1 2 3 4) ∷ []) ++ with_count []))
    ∷ turn (take_value 0x00A1 (9 ∷ 9 ∷ 9 ∷ [])) 0 []
    ∷ turn take_expiry 20 []
    ∷ turn acknowledgement 0 (5 ∷ [])
    ∷ turn acknowledgement 8 []
    ∷ turn (take_value 0x00A1 []) 0 []
    ∷ turn (build_in (zeros 1601)) 0 (3 ∷ with_length (with_count [] ++ with_count (failed_record 0x00A1 3 ∷ [])))
    ∷ turn take_expiry 20 []
    ∷ turn take_expiry 20 []
    ∷ turn take_expiry 20 []
    ∷ turn take_expiry 20 []
    ∷ turn take_expiry 21 []
    ∷ turn take_expiry 8 []
    ∷ turn (take_value 0x00A4 (0 ∷ 120 ∷ [])) 0 []
    ∷ turn (build_in (zeros 1600)) 0 (3 ∷ with_length (with_count [] ++ with_count (failed_record 0x00A1 3 ∷ [])))
    ∷ turn acknowledgement 0 (5 ∷ [])
    ∷ turn (build_in (zeros 1600)) 9 []
    ∷ turn (take_value 0x00A4 (0 ∷ 121 ∷ [])) 0 []
    ∷ turn (take_value 0x0008 (four 1 2 3 5)) 0 []
    ∷ turn (command (unsubscribing 0x00A4 ∷ subscribing 0x0008 ∷ [])) 0 (2 ∷ [])
    ∷ []

unfoldable pub reported_entries : List LaidEntry
unfolding fresh-entries with
reported_entries =
    with 6 (holding 0x0008 7 (four 1 2 3 5) 4)
    (with 14 (holding 0x00A1 2 [] 255)
    (with 16 (holding 0x00A3 1 (7 ∷ 8 ∷ 9 ∷ []) 255) (with 17 (holding 0x00A4 1 (0 ∷ 121 ∷ []) 2) fresh-entries)))

pub reported_life : agrees (lived release18 fresh (calls reported)) (record { results = results reported; left = laid reported_entries 0 0 }) ≡ true
unfolding all gives agrees same_octets same_results lived reported command acknowledgement reading subscribing unsubscribing with_length two_octets held_record failed_record with_count laid with fresh-entries reported_entries
reported_life = refl

-- ---- a modem is lost: what was told is told again, and what changed meanwhile with it

unfoldable pub lost : List Turn
unfolding command acknowledgement setting subscribing unsubscribing with_length two_octets held_record short_record failed_record with_count
lost =
    turn (command (subscribing 0x0008 ∷ subscribing 0x00A0 ∷ subscribing 0x00A1 ∷ subscribing 0x00A4 ∷ [])) 0 (2 ∷ [])
    ∷ turn (take_value 0x0008 (four 1 2 3 4)) 0 []
    ∷ turn (take_value 0x00A0 (7 ∷ [])) 0 []
    ∷ turn (take_value 0x00A4 (0 ∷ 120 ∷ [])) 0 []
    ∷ turn (build_in (zeros 1600)) 0
    (3 ∷ with_length (with_count (held_record 0x0008 (four 1 2 3 4) ∷ held_record 0x00A0 (7 ∷ []) ∷ held_record 0x00A4 (0 ∷ 120 ∷ []) ∷ []) ++ with_count []))
    ∷ turn take_expiry 20 []
    -- in flight 0008 changes, 00A0 does not, 00A4 is let go; 00A1 was not told
    ∷ turn (take_value 0x0008 (four 1 2 3 5)) 0 []
    ∷ turn (take_value 0x00A0 (7 ∷ [])) 0 []
    ∷ turn (take_value 0x00A1 (9 ∷ 9 ∷ [])) 0 []
    ∷ turn (command (unsubscribing 0x00A4 ∷ subscribing 0x00A4 ∷ subscribing 0x00A0 ∷ setting 0x0003 (1 ∷ []) ∷ [])) 0
    (2 ∷ 0x72 ∷ with_length (with_count (short_record 0x0003 (1 ∷ []) ∷ []) ++ with_count []))
    ∷ turn take_expiry 20 []
    ∷ turn take_expiry 20 []
    ∷ turn take_expiry 20 []
    ∷ turn take_expiry 21 []
    ∷ turn (build_in (zeros 1600)) 0
    (3 ∷ with_length (with_count (held_record 0x0008 (four 1 2 3 5) ∷ held_record 0x00A0 (7 ∷ []) ∷ held_record 0x00A1 (9 ∷ 9 ∷ []) ∷ []) ++ with_count []))
    -- what changes in flight is still to be told once that is acknowledged
    ∷ turn (take_value 0x00A1 []) 0 []
    ∷ turn acknowledgement 0 (5 ∷ [])
    ∷ turn (build_in (zeros 1600)) 0 (3 ∷ with_length (with_count [] ++ with_count (failed_record 0x00A1 3 ∷ [])))
    ∷ turn (take_value 0x00A0 (6 ∷ [])) 0 []
    ∷ turn (take_value 0x00A1 (8 ∷ [])) 0 []
    ∷ []

unfoldable pub lost_entries : List LaidEntry
unfolding fresh-entries with
lost_entries =
    with 1 (holding 0x0003 1 (1 ∷ []) 1)
    (with 6 (holding 0x0008 3 (four 1 2 3 5) 4)
    (with 13 (holding 0x00A0 7 (6 ∷ []) 1)
    (with 14 (holding 0x00A1 15 (8 ∷ []) 255) (with 17 (holding 0x00A4 3 (0 ∷ 120 ∷ []) 2) fresh-entries))))

pub lost_life : agrees (lived release18 fresh (calls lost)) (record { results = results lost; left = laid lost_entries 1 0 }) ≡ true
unfolding all gives agrees same_octets same_results lived lost command acknowledgement setting subscribing unsubscribing with_length two_octets held_record short_record failed_record with_count laid with fresh-entries lost_entries
lost_life = refl

-- ---- made fresh

-- whatever was there, a notification that waits too
pub fresh_life : agrees (lived release18 (laid full 1 4) (refresh ∷ [])) (record { results = record { number = 0; octets = [] } ∷ []; left = laid fresh-entries 0 0 }) ≡ true
unfolding all gives agrees same_octets same_results lived laid with fresh-entries full running_block one two right exact block_of
fresh_life = refl

-- ---- refusals

-- memory that is not sound: none of it
pub unsound_life : agrees (lived release18 [] (refresh ∷ take_message (1 ∷ 0 ∷ 1 ∷ 1 ∷ []) (zeros 64) ∷ take_value 0x0008 (four 0 0 0 0) ∷ build_in (zeros 1600) ∷ take_expiry ∷ []))
    (record { results = replicate 5 (record { number = 1; octets = [] }); left = [] })
    ≡ true
unfolding all gives agrees same_octets same_results lived
unsound_life = refl

-- ---- what a controller of Release 18 asks, and the port does not serve

-- names and values with which another operation would be done, and others; a name is subscribed, one is not
unfoldable pub unserved : List Turn
unfolding command subscribing setting reading like_set with_length two_octets held_record short_record failed_record with_count two times
unserved =
    turn (command (subscribing 0x00A4 ∷ setting 0x0003 (1 ∷ []) ∷ [])) 0 (0x02 ∷ 0x72 ∷ with_length (with_count (short_record 0x0003 (1 ∷ []) ∷ []) ++ with_count []))
    ∷ turn (command (like_set 6 0x0003 [] ∷ reading 0x0003 ∷ like_set 6 0x0002 (1 ∷ 2 ∷ []) ∷ reading 0x0002 ∷ like_set 6 0x0004 (zeros 10) ∷ like_set 9 0x0003 (0 ∷ [])
    ∷ setting 0x0002 []
    ∷ like_set 9 0xFFFF (zeros 300)
    ∷ like_set 7 0x0008 []
    ∷ like_set 8 0x00A4 []
    ∷ [])) 0
    (0x02 ∷ 0x71
    ∷ with_length (with_count (held_record 0x0003 (1 ∷ []) ∷ [])
    ++ with_count (failed_record 0x0003 0x6F ∷ failed_record 0x0002 0x6F ∷ failed_record 0x0002 1 ∷ failed_record 0x0004 0x6F ∷ []))
    ++ (0x72 ∷ with_length (with_count [] ++ with_count (failed_record 0x0003 0x6F ∷ failed_record 0x0002 1 ∷ failed_record 0xFFFF 0x6F ∷ []))))
    ∷ turn (command (like_set 7 0x0008 (zeros 4) ∷ like_set 8 0x00A4 (zeros 2) ∷ like_set 7 0xFFFF (zeros 300) ∷ [])) 0 (0x02 ∷ [])
    ∷ turn (command (like_set 9 0x0006 (times 37 two) ∷ setting 0x0006 (times 37 two) ∷ like_set 9 0x0006 (times 37 two) ∷ [])) 0
    (0x02 ∷ 0x72
    ∷ with_length (with_count [] ++ (with_count (failed_record 0x0006 0x6F ∷ failed_record 0x0006 0x6F ∷ []) ++ with_length (held_record 0x0006 (times 37 two)))))
    ∷ []

-- what was set and subscribed stays as it is, and nothing else is there
unfoldable pub unserved_entries : List LaidEntry
unfolding fresh-entries with two times
unserved_entries = with 1 (holding 0x0003 1 (1 ∷ []) 1) (with 4 (holding 0x0006 1 (times 37 two) 448) (with 17 (holding 0x00A4 2 [] 2) fresh-entries))

pub unserved_life : agrees (lived release18 fresh (calls unserved)) (record { results = results unserved; left = laid unserved_entries 0 0 }) ≡ true
unfolding all gives agrees same_octets same_results lived unserved command subscribing setting reading like_set with_length two_octets held_record short_record failed_record with_count two times laid with fresh-entries unserved_entries
unserved_life = refl

-- messages into fresh memory, none of which changes it: each with its room's length
unfoldable pub refused : List Turn
unfolding table_names
refused =
    turn (take_message [] (zeros 64)) 2 []
    ∷ turn (take_message (replicate 2049 1) (zeros 64)) 3 []
    ∷ turn (take_message (0 ∷ []) (zeros 64)) 4 []
    ∷ turn (take_message (2 ∷ 0 ∷ 1 ∷ 1 ∷ []) (zeros 64)) 4 []
    ∷ turn (take_message (5 ∷ []) (zeros 64)) 4 []
    ∷ turn (take_message (1 ∷ 0 ∷ []) (zeros 64)) 5 []
    ∷ turn (take_message (1 ∷ 0 ∷ 0 ∷ 1 ∷ []) (zeros 64)) 5 []
    ∷ turn (take_message (1 ∷ 0 ∷ 2 ∷ 1 ∷ []) (zeros 64)) 5 []
    ∷ turn (take_message (1 ∷ 1 ∷ 1 ∷ 1 ∷ []) (zeros 64)) 5 []
    ∷ turn (take_message (1 ∷ 0 ∷ 3 ∷ 0 ∷ 0 ∷ 3 ∷ []) (zeros 64)) 6 []
    ∷ turn (take_message (1 ∷ 0 ∷ 2 ∷ 1 ∷ 0x0A ∷ []) (zeros 64)) 6 []
    ∷ turn (take_message (1 ∷ 0 ∷ 2 ∷ 2 ∷ 0 ∷ 3 ∷ []) (zeros 64)) 6 []
    ∷ turn (take_message (1 ∷ 0 ∷ 5 ∷ 3 ∷ 0 ∷ 3 ∷ 0 ∷ 1 ∷ 1 ∷ []) (zeros 64)) 6 []
    ∷ turn (take_message (1 ∷ 0 ∷ 3 ∷ 2 ∷ 0 ∷ 3 ∷ []) (zeros 10)) 7 []
    ∷ turn (take_message (1 ∷ 0 ∷ 3 ∷ 2 ∷ 0 ∷ 3 ∷ []) (zeros 11)) 0 (2 ∷ 0x71 ∷ 0 ∷ 7 ∷ 1 ∷ 0 ∷ 3 ∷ 0 ∷ 1 ∷ 0 ∷ 0 ∷ [])
    ∷ turn (take_message (4 ∷ 0 ∷ []) (zeros 64)) 8 []
    ∷ turn (take_message (1 ∷ 0 ∷ 1 ∷ 1 ∷ 9 ∷ 9 ∷ []) (zeros 64)) 0 (2 ∷ 0x70 ∷ 0 ∷ 38 ∷ table_names)
    ∷ []

pub refused_life : agrees (lived release18 fresh (calls refused)) (record { results = results refused; left = laid fresh-entries 0 0 }) ≡ true
unfolding all gives agrees same_octets same_results lived refused table_names laid fresh-entries
refused_life = refl

-- so many records of a kind as a count can tell, and one more: reads and sets that fail, and that do not; what is not served, alone and among those
unfoldable pub repeated : ℕ → List ℕ → Call
unfolding two_octets with_length times
repeated n o = take_message (1 ∷ with_length (times n o)) (zeros 4096)

pub counts_life : map (λ (c : Call). (gives release18 fresh c).number) (repeated 255 (reading 2) ∷ repeated 256 (reading 2) ∷ repeated 255 (reading 3) ∷ repeated 256 (reading 3)
    ∷ repeated 255 (setting 2 [])
    ∷ repeated 256 (setting 2 [])
    ∷ repeated 255 (setting 3 (1 ∷ []))
    ∷ repeated 256 (setting 3 (1 ∷ []))
    ∷ repeated 255 (like_set 6 3 [])
    ∷ repeated 256 (like_set 6 3 [])
    ∷ repeated 255 (like_set 9 3 [])
    ∷ repeated 256 (like_set 9 3 [])
    ∷ repeated 400 (like_set 7 3 [])
    ∷ repeated 400 (like_set 8 3 [])
    ∷ repeated 127 (reading 2 ++ like_set 6 3 [])
    ∷ repeated 128 (reading 2 ++ like_set 6 3 [])
    ∷ repeated 127 (setting 2 [] ++ like_set 9 3 [])
    ∷ repeated 128 (setting 2 [] ++ like_set 9 3 [])
    ∷ []) ≡ 0 ∷ 7 ∷ 0 ∷ 7 ∷ 0 ∷ 7 ∷ 0 ∷ 7 ∷ 0 ∷ 7 ∷ 0 ∷ 7 ∷ 0 ∷ 0 ∷ 0 ∷ 7 ∷ 0 ∷ 7 ∷ []
unfolding all gives repeated two_octets with_length times reading setting like_set
counts_life = refl
