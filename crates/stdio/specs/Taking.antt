-- Pieces taken one after another from the octets that are held: what a program has afterwards, and the lines that it prints.
use Rattle.std.specs.Prelude.{ℕ, zero, suc, ◌+◌, ◌-◌, ◌≤◌, ◌<◌, ◌≡◌, Bool, true, false, cond, ◌&&◌, List, [], ◌++◌, length, take, leb, Some, None, Result, Ok, Err}
use Rattle.meaning.specs.Octets.{octet, part}
use Rattle.std.specs.declared.option.Option.{Option}
use Rattle.page.specs.declared.Page.{Page}
use Rattle.page.specs.Printing.{Prints}
use Rattle.stdio.specs.Pieces.{needed, cut_line}
use Rattle.stdio.specs.declared.Failure.{Failure}

-- a piece: its first octet, which is its code where it has one, and the body behind its head
pub record Piece : Type 0 where
  pub first : ℕ
  pub body : List ℕ

-- what a program does with its pieces: the octets of their heads, which of them it can take, and the line that it prints for
-- one and the state that it has after it, both by the state before it. S is what it keeps from piece to piece.
pub record Program (S : Type 0) : Type 0 where
  pub head : ℕ
  pub right : Piece → Bool
  pub line : S → Piece → List ℕ
  pub after : S → Piece → S

-- between two pieces: the state, and the place of the next piece
pub record Between (S : Type 0) : Type 0 where
  pub state : S
  pub from : ℕ

-- the piece at a place, and whether all of it is there: its head, and as many octets as that says
unfoldable pub piece_at : ℕ → List ℕ → ℕ → Piece
piece_at head held from = record { first = octet held from; body = part held (from + head) (needed held from head - head) }

unfoldable pub whole_at : ℕ → List ℕ → ℕ → Bool
whole_at head held from = leb (from + needed held from head) (length held)

-- whether the piece at a place is there and can be taken
unfoldable pub goes_on : {S : Type 0} → Program S → List ℕ → ℕ → Bool
goes_on t held from = whole_at t.head held from && t.right (piece_at t.head held from)

unfoldable pub line_at : {S : Type 0} → Program S → List ℕ → Between S → List ℕ
line_at t held p = t.line p.state (piece_at t.head held p.from)

unfoldable pub next : {S : Type 0} → Program S → List ℕ → Between S → Between S
next t held p = record { state = t.after p.state (piece_at t.head held p.from); from = p.from + needed held p.from t.head }

-- at most n pieces taken, and their lines; a whole piece that cannot be taken is the last, and prints `cut`
unfoldable pub taken_in : {S : Type 0} → Program S → ℕ → List ℕ → Between S → Between S
taken_in t zero held p = p
taken_in t (suc n) held p = cond (goes_on t held p.from) (taken_in t n held (next t held p)) p

unfoldable pub lines_in : {S : Type 0} → Program S → ℕ → List ℕ → Between S → List ℕ
lines_in t zero held p = []
lines_in t (suc n) held p = cond (goes_on t held p.from) (line_at t held p ++ lines_in t n held (next t held p)) (cond (whole_at t.head held p.from) cut_line [])

-- all that can be taken: there are no more pieces than octets
unfoldable pub taken : {S : Type 0} → Program S → List ℕ → Between S → Between S
taken t held p = taken_in t (length held) held p

unfoldable pub lines : {S : Type 0} → Program S → List ℕ → Between S → List ℕ
lines t held p = lines_in t (length held) held p

-- a piece that is there and cannot be taken; no whole piece, and less left than the longest one has
abbrev pub Faulty : {S : Type 0} → Program S → List ℕ → ℕ → Type 0
Faulty t held from = (whole_at t.head held from ≡ true) × (t.right (piece_at t.head held from) ≡ false)

abbrev pub Wanting : {S : Type 0} → Program S → List ℕ → ℕ → Type 0
Wanting t held from = (whole_at t.head held from ≡ false) × (length held < from + t.head + 65535)

-- Some pieces have been taken, from p up to q, and their lines printed: what is left to take and its lines, behind those that
-- were printed, make up the whole. Either the next piece is faulty, and `cut` has been printed too; or no whole piece is left;
-- or some were taken and lines are due.
pub record Batched {S : Type 0} (t : Program S) (held : List ℕ) (p q : Between S) (faulty : Bool) (page : Page) : Type 0 where
  pub same : taken t held q ≡ taken t held p
  pub joined : take page.at page.room.now ++ cond faulty [] (lines t held q) ≡ lines t held p
  pub stopped : faulty ≡ true → Faulty t held q.from
  pub all : faulty ≡ false → page.at < 65536 → Wanting t held q.from
  pub onward : faulty ≡ false → 65536 ≤ page.at → p.from < q.from
  pub within : q.from ≤ length held
  pub short : page.at ≤ length page.room.now

-- ---- a program, as its code takes its pieces

-- One piece: its line has been printed, and the state is the one after it; or it is faulty, and nothing is changed.
abbrev pub TakesOne : {S : Type 0} → Program S → S → Piece → ℕ → Page → Page → Option (Unit {0}) → S → Type 0
TakesOne t s r longest page page' (Some done) s' = (t.right r ≡ true) × (s' ≡ t.after s r) × Prints page (t.line s r) page' × (page'.at ≤ page.at + longest)
TakesOne t s r longest page page' None s' = (t.right r ≡ false) × (s' ≡ s) × (page' ≡ page)

-- some pieces, up to the place of the next one, or to a faulty one
abbrev pub Batches : {S : Type 0} → Program S → List ℕ → Between S → S → Option ℕ → Page → Type 0
Batches t held p s (Some from) page = Batched t held p (record { state = s; from = from }) false page
Batches t held p s None page = (from : ℕ) × Batched t held p (record { state = s; from = from }) true page

-- every whole piece, and there is room to read more; or all up to a faulty one
abbrev pub Serves : {S : Type 0} → Program S → List ℕ → S → Result (Option ℕ) Failure → S → Type 0
Serves t held s (Ok (Some from)) s' = (taken t held (record { state = s; from = 0 }) ≡ record { state = s'; from = from }) × (from ≤ length held) × Wanting t held from
Serves t held s (Ok None) s' = Faulty t held (taken t held (record { state = s; from = 0 })).from
Serves t held s (Err e) s' = Unit {0}
