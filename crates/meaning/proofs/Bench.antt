-- The ten examples from the bench as one list, and one statement over it: what the definitions give is what the bench wants.
use Prim.Native.Nat.{ℕ, ◌-◌, ◌^◌}
use mathlib.Core.Path.{◌≡◌, refl}
use mathlib.Core.List.{List, [], ◌∷◌, ◌++◌, map}
use Rattle.meaning.specs.Octets.{zeros}
use Rattle.meaning.specs.Memory.{fresh}
use Rattle.meaning.specs.Delay.{delay}
use Rattle.meaning.specs.Profile.{release18}
use Rattle.meaning.specs.Calls.{message}
use Rattle.meaning.proofs.All.{all}
use Rattle.meaning.proofs.Wording.{two_octets, with_length, setting, short_record}

-- what is tried: a message into fresh memory with a room of 4,096, or a delay
pub data Trial : Type 0 where
  sent : List ℕ → Trial
  nanoseconds : ℕ → Trial

-- what comes of it: a number and the octets written
pub record Result : Type 0 where
  pub number : ℕ
  pub octets : List ℕ

pub record Example : Type 0 where
  pub trial : Trial
  pub wanted : Result

abbrev pub example : Trial → ℕ → List ℕ → Example
example t n r = record { trial = t; wanted = record { number = n; octets = r } }

unfoldable pub given : Trial → Result
given (sent s) =
    let o = message release18 fresh s (zeros 4096) in
    record { number = o.number; octets = o.written }
given (nanoseconds n) = record { number = 0; octets = delay n }

-- ---- the schedule of examples 6 and 7

-- a list entry: operation 0, the octet 5, states FF, 1,000,000 ns
unfoldable pub entry : List ℕ
entry = 0x00 ∷ 0x05 ∷ 0xFF ∷ 0x00 ∷ 0x0F ∷ 0x42 ∷ 0x40 ∷ []

-- a cycle of 1 / d for the two low octets of d
unfoldable pub one_over : ℕ → ℕ → List ℕ
one_over h l = 0 ∷ 0 ∷ 0 ∷ 1 ∷ 0 ∷ 0 ∷ h ∷ l ∷ []

-- base time zero, length 1, one entry, a cycle, and a commit
unfoldable pub schedule : List ℕ → List ℕ → List ℕ
unfolding setting with_length two_octets entry
schedule c v =
    1
    ∷ with_length
    (setting 0x0004 (zeros 10) ++ (setting 0x0005 (0 ∷ 0 ∷ 0 ∷ 1 ∷ []) ++ (setting 0x0006 entry ++ (setting 0x0007 c ++ setting 0x8001 v))))

-- the records of the four that are set
unfoldable pub four_records : List ℕ → List ℕ
unfolding short_record two_octets entry
four_records c = short_record 0x0004 (zeros 10) ++ (short_record 0x0005 (0 ∷ 0 ∷ 0 ∷ 1 ∷ []) ++ (short_record 0x0006 entry ++ short_record 0x0007 c))

-- the names of the table
unfoldable pub table_names : List ℕ
table_names =
    0 ∷ 0x01 ∷ 0 ∷ 0x03 ∷ 0 ∷ 0x04 ∷ 0 ∷ 0x05 ∷ 0 ∷ 0x06 ∷ 0 ∷ 0x07 ∷ 0 ∷ 0x08 ∷ 0 ∷ 0x0B ∷ 0 ∷ 0x40 ∷ 0 ∷ 0x41 ∷ 0 ∷ 0x42 ∷ 0
    ∷ 0x60 ∷ 0 ∷ 0x61 ∷ 0 ∷ 0xA0 ∷ 0 ∷ 0xA1 ∷ 0 ∷ 0xA2 ∷ 0 ∷ 0xA3 ∷ 0 ∷ 0xA4 ∷ 0x80 ∷ 0x01 ∷ []

-- the examples of RULES 18.2 to 18.11; the seventh for any four octets of a commit
unfoldable pub examples : ℕ → ℕ → ℕ → ℕ → List Example
examples a b c d =
    example (sent (1 ∷ 0 ∷ 3 ∷ 2 ∷ 0 ∷ 3 ∷ [])) 0 (0x02 ∷ 0x71 ∷ 0 ∷ 7 ∷ 1 ∷ 0 ∷ 3 ∷ 0 ∷ 1 ∷ 0 ∷ 0 ∷ [])
    ∷ example (sent (1 ∷ 0 ∷ 6 ∷ 3 ∷ 0 ∷ 3 ∷ 0 ∷ 1 ∷ 1 ∷ [])) 0 (0x02 ∷ 0x72 ∷ 0 ∷ 6 ∷ 1 ∷ 0 ∷ 3 ∷ 1 ∷ 1 ∷ 0 ∷ [])
    ∷ example (sent (1 ∷ 0 ∷ 3 ∷ 2 ∷ 0 ∷ 2 ∷ [])) 0 (0x02 ∷ 0x71 ∷ 0 ∷ 5 ∷ 0 ∷ 1 ∷ 0 ∷ 2 ∷ 1 ∷ [])
    ∷ example (sent (1 ∷ 0 ∷ 3 ∷ 4 ∷ 0 ∷ 1 ∷ [])) 0 (0x02 ∷ [])
    ∷ example (sent (1 ∷ 0 ∷ 1 ∷ 1 ∷ [])) 0 (0x02 ∷ 0x70 ∷ 0x00 ∷ 0x26 ∷ table_names)
    ∷ example (sent (schedule (one_over 0x03 0xE8) (0x02 ∷ 0x82 ∷ 0x13 ∷ 0xB5 ∷ []))) 0
    (0x02 ∷ 0x72 ∷ 0 ∷ 50 ∷ 5 ∷ four_records (one_over 0x03 0xE8) ++ (0x80 ∷ 1 ∷ 4 ∷ 0x02 ∷ 0x82 ∷ 0x13 ∷ 0xB5 ∷ 0 ∷ []))
    ∷ example (sent (schedule (one_over 0x03 0xE9) (a ∷ b ∷ c ∷ d ∷ []))) 0
    (0x02 ∷ 0x72 ∷ 0 ∷ 46 ∷ 4 ∷ four_records (one_over 0x03 0xE9) ++ (1 ∷ 0x80 ∷ 1 ∷ 0x02 ∷ []))
    ∷ example (nanoseconds 1) 0 (0 ∷ 0 ∷ 1 ∷ 0 ∷ 0 ∷ 0 ∷ 0 ∷ 0 ∷ [])
    ∷ example (nanoseconds (2 ^ 47 - 1)) 0 (0 ∷ 0 ∷ 0xFF ∷ 0xFF ∷ 0xFF ∷ 0xFF ∷ 0xFF ∷ 0x7F ∷ [])
    ∷ example (nanoseconds (2 ^ 47)) 0 (0xFF ∷ 0xFF ∷ 0xFF ∷ 0xFF ∷ 0xFF ∷ 0xFF ∷ 0xFF ∷ 0x7F ∷ [])
    ∷ example (sent (1 ∷ 0 ∷ 1 ∷ 0x0A ∷ [])) 6 []
    ∷ example (sent (1 ∷ 0 ∷ 6 ∷ 3 ∷ 0 ∷ 3 ∷ 0 ∷ 2 ∷ 1 ∷ [])) 6 []
    ∷ []

abbrev pub trials : List Example → List Result
trials es = map (λ (e : Example). given e.trial) es

pub bench : (a b c d : ℕ) → trials (examples a b c d) ≡ map (λ (e : Example). e.wanted) (examples a b c d)
unfolding all examples table_names four_records schedule setting short_record with_length two_octets one_over entry given
bench a b c d = refl
