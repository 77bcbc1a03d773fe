-- What is left to hand out of a message at first: where its records of each kind stand.
use Rattle.std.specs.Prelude.{ℕ, ◌-◌, ◌%◌, cond, List, length, drop, eqb, Option, Some, None, option_and_then}
use Rattle.meaning.specs.Octets.{part}
use Rattle.meaning.specs.Capture.{sized}
use Rattle.contents.specs.Spans.{span, octets_of, spanned, walked, is_whole, counted_in}
use Rattle.contents.specs.declared.Span.{Span}
use Rattle.contents.specs.declared.Contents.{Contents}
use Rattle.contents.specs.declared.Counted.{Counted}
use Rattle.capture.specs.declared.Cursor.{Cursor}

abbrev pub cursor : Span → Span → Span → Span → Span → Span → Cursor
cursor n v e u f l = record { names = n; values = v; read_errors = e; updates = u; update_errors = f; long_updates = l }

abbrev pub nothing_left : Cursor
nothing_left = cursor (span 0 0) (span 0 0) (span 0 0) (span 0 0) (span 0 0) (span 0 0)

-- an element that is read stands behind the type, so its contents do not end at 0
unfoldable pub opened_names : Cursor → Span → Option Cursor
opened_names c p =
    cond (eqb p.to 0) (Some c)
    (cond (eqb ((p.to - p.from) % 2) 0) (Some (cursor p c.values c.read_errors c.updates c.update_errors c.long_updates))
    None)

-- values and errors, and nothing left over
unfoldable pub status_of : Cursor → ℕ → Option Counted → Option Cursor
status_of c to None = None
status_of c to (Some k) =
    cond (eqb k.errors.to to) (Some (cursor c.names k.values k.errors c.updates c.update_errors c.long_updates))
    None

unfoldable pub opened_status : List ℕ → Cursor → Span → Option Cursor
opened_status s c p = cond (eqb p.to 0) (Some c) (status_of c p.to (counted_in 2 s p))

-- long updates from a place up to another: nothing there, or a length and exactly so many octets of whole records
unfoldable pub longs_of : List ℕ → ℕ → Option Span → Option Span
longs_of s to None = None
longs_of s to (Some p) = cond (eqb p.to to) (cond (is_whole (octets_of s p)) (Some p) None) None

unfoldable pub longs_at : List ℕ → ℕ → ℕ → Option Span
longs_at s at to = cond (eqb at to) (Some (span to to)) (longs_of s to (spanned to (sized 2 (part s at (to - at)))))

unfoldable pub with_longs : Cursor → Span → Span → Option Span → Option Cursor
with_longs c u f None = None
with_longs c u f (Some l) = Some (cursor c.names c.values c.read_errors u f l)

unfoldable pub result_of : List ℕ → Cursor → ℕ → Option Counted → Option Cursor
result_of s c to None = None
result_of s c to (Some k) = with_longs c k.values k.errors (longs_at s k.errors.to to)

unfoldable pub opened_result : List ℕ → Cursor → Span → Option Cursor
opened_result s c p = cond (eqb p.to 0) (Some c) (result_of s c p.to (counted_in 1 s p))

unfoldable pub of_elements : List ℕ → Option Contents → Option Cursor
of_elements s None = None
of_elements s (Some k) =
    option_and_then (λ n. option_and_then (λ t. opened_result s t k.result) (opened_status s n k.status)) (opened_names nothing_left k.names)

unfoldable pub opened_reply : List ℕ → Option Cursor
opened_reply s = of_elements s (walked s)

unfoldable pub of_contents : List ℕ → Option Span → Option Cursor
of_contents s None = None
of_contents s (Some p) = opened_status s nothing_left p

unfoldable pub opened_notification : List ℕ → Option Cursor
opened_notification s = of_contents s (spanned (length s) (sized 2 (drop 1 s)))
