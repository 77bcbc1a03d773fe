-- Where things stand in a message: the octets that `Capture` of `meaning` finds, as places. Places are told by the octets that are behind.
use Rattle.std.specs.Prelude.{ℕ, ◌+◌, ◌-◌, Bool, List, length, drop, Option as Returned, Some, None}
use Rattle.std.proofs.Math.Option.{Option, none, some}
use Rattle.meaning.specs.Octets.{part}
use Rattle.meaning.specs.Capture.{is_there, front_held, front_failed, read_cause, behind_count, until_end, Elements, keeping, elements_of}
use Rattle.contents.specs.declared.Span.{Span}
use Rattle.contents.specs.declared.Contents.{Contents}
use Rattle.contents.specs.declared.Counted.{Counted}

abbrev pub span : ℕ → ℕ → Span
span a b = record { from = a; to = b }

-- the octets of a span
unfoldable pub octets_of : List ℕ → Span → List ℕ
octets_of s p = part s p.from (p.to - p.from)

-- where the octets c stand, with some behind them up to a place
unfoldable pub standing : ℕ → List ℕ → List ℕ → Span
standing to c behind = span (to - length behind - length c) (to - length behind)

unfoldable pub spanned : ℕ → Option (List ℕ × List ℕ) → Returned Span
spanned to none = None
spanned to (some c) = Some (standing to c.0 c.1)

-- ---- elements

-- what the code keeps of elements, as `meaning` keeps it
abbrev pub elements_is : Contents → Elements Span
elements_is k = record { highest = k.highest; names = k.names; status = k.status; result = k.result }

abbrev pub contents_is : Elements Span → Contents
contents_is k = record { highest = k.highest; names = k.names; status = k.status; result = k.result }

unfoldable pub kept : Contents → ℕ → Span → Contents
kept k id p = contents_is (keeping (elements_is k) id p)

unfoldable pub of_walk : Option (Elements Span) → Returned Contents
of_walk none = None
of_walk (some k) = Some (contents_is k)

-- the elements of a message that are read, each by its place
unfoldable pub walked : List ℕ → Returned Contents
walked s = of_walk (elements_of (standing (length s)) (span 0 0) (drop 1 s))

-- ---- records

unfoldable pub place_after : {A : Type 0} → ℕ → Option (A × List ℕ) → Returned ℕ
place_after to none = None
place_after to (some r) = Some (to - length r.1)

unfoldable pub is_whole : List ℕ → Bool
is_whole s = is_there (until_end (front_held 2) s)

-- errors behind their count, which stands at a place, and values from another place up to it
unfoldable pub with_errors : {A : Type 0} → ℕ → ℕ → ℕ → Option (A × List ℕ) → Returned Counted
with_errors values second to none = None
with_errors values second to (some e) = Some (record { values = span values second; errors = span (second + 1) (to - length e.1) })

unfoldable pub with_values : {A : Type 0} → Span → Option (A × List ℕ) → Returned Counted
with_values p none = None
with_values p (some v) = with_errors (p.from + 1) (p.to - length v.1) p.to (behind_count (front_failed read_cause) v.1)

unfoldable pub counted_in : ℕ → List ℕ → Span → Returned Counted
counted_in w s p = with_values p (behind_count (front_held w) (octets_of s p))
