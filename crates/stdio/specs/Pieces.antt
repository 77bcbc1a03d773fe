-- Pieces in the octets that were read: where the next one ends, or that more input is wanted; and what a read brings.
use Rattle.std.specs.Prelude.{ℕ, ◌+◌, ◌-◌, ◌≤◌, ◌<◌, ◌≡◌, cond, List, [], ◌∷◌, length, take, leb, Some, None, Result, Ok, Err}
use Rattle.std.specs.declared.option.Option.{Option}
use Rattle.std.specs.Io.KnownBytes.{Consumes, IsAtEnd, Keeps}
use Rattle.meaning.specs.Octets.{at16, part}
use Rattle.stdio.specs.declared.Failure.{Failure}

-- octets of the piece at a place, as far as they can be told: its head, and as many as the head's last two octets say
unfoldable pub needed : List ℕ → ℕ → ℕ → ℕ
needed s from head = cond (leb (from + head) (length s)) (head + at16 s (from + head - 2)) head

-- a piece is whole where all of it is there, and it is found with its end
unfoldable pub next_at : List ℕ → ℕ → ℕ → Option ℕ
next_at s from head = cond (leb (from + needed s from head) (length s)) (Some (from + needed s from head)) None

-- `cut`
unfoldable pub cut_line : List ℕ
cut_line = 99 ∷ 117 ∷ 116 ∷ 10 ∷ []

-- what was read lies behind a place and within n octets
abbrev pub Brought : ℕ → ℕ → Result (Option ℕ) Failure → Type 0
Brought n at (Ok (Some k)) = (1 ≤ k) × (at + k ≤ n)
Brought n at (Ok None) = Unit {0}
Brought n at (Err e) = Unit {0}

-- a read to a place leaves the octets before it
abbrev pub Reads : List ℕ → ℕ → Result (Option ℕ) Failure → List ℕ → Type 0
Reads block at r block' = (take at block' ≡ take at block) × Brought (length block) at r

-- What it brings is what the stream had next, where that is known; the rest stays in the stream. At the end nothing is left,
-- if there was room to read to.
abbrev pub Brings : Option (List ℕ) → Option (List ℕ) → Result (Option ℕ) Failure → List ℕ → Type 0
Brings old new (Ok (Some n)) s = Consumes old new (take n s)
Brings old new (Ok None) s = Keeps old new × (0 < length s → IsAtEnd new)
Brings old new (Err e) s = Keeps old new

-- where the input goes on, the octets between two places are in front, with more behind them
abbrev pub Continues : List ℕ → ℕ → ℕ → Result (Option ℕ) Failure → List ℕ → Type 0
Continues block from to (Ok (Some end)) block' = (take (to - from) block' ≡ part block from (to - from)) × (to < from + end) × (end ≤ length block)
Continues block from to (Ok None) block' = Unit {0}
Continues block from to (Err e) block' = Unit {0}
