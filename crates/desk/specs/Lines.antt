-- What lines print: each where it ends, one after another; and the line that goes on behind the last line feed.
use Rattle.std.specs.Prelude.{ℕ, ◌≤◌, ◌<◌, ◌≡◌, cond, List, [], ◌∷◌, ◌++◌, length, take, drop, Result, Ok, Err}
use Rattle.typed.specs.declared.Form.{Form}
use Rattle.typed.specs.declared.Form.TheVariants.{Blank, Digit, Lead, Number, Numbered, Octets, Half, Refused, Other}
use Rattle.typed.specs.Forms.{Typed, fresh, typed, typed_in, Keeps}
use Rattle.typed.specs.Scanning.{is_feed}
use Rattle.text.specs.Lines.{line}
use Rattle.words.specs.Lines.{message_lines, not_a_message}
use Rattle.typed.specs.declared.Line.{Line}
use Rattle.stdio.specs.declared.Failure.{Failure}

-- by what a line stands for: nothing, a message, a number, or anything else (RULES 21)
unfoldable pub answer_by : Form → List ℕ → List ℕ
answer_by Blank s = []
answer_by (Digit h) s = not_a_message
answer_by (Lead n) s = not_a_message
answer_by (Number n) s = message_lines s
answer_by (Numbered n) s = message_lines s
answer_by Octets s = message_lines s
answer_by (Half h) s = not_a_message
answer_by (Refused n) s = line n []
answer_by Other s = not_a_message

unfoldable pub answer_of : Typed → List ℕ
answer_of t = answer_by t.form t.octets

-- what is printed for the lines that end in some octets, the first of which has begun as t
unfoldable pub printed : Typed → List ℕ → List ℕ
printed t [] = []
printed t (c ∷ s) = cond (is_feed c) (answer_of t ++ printed fresh s) (printed (typed t c) s)

-- the line that goes on behind them
unfoldable pub last_of : Typed → List ℕ → Typed
last_of t [] = t
last_of t (c ∷ s) = cond (is_feed c) (last_of fresh s) (last_of (typed t c) s)

-- Some lines have been answered, from a place up to another: what is left to print, behind what was, makes up the whole. Either
-- all that is held has been taken, or some was and lines are due.
pub record Batched (held : List ℕ) (t : Typed) (from : ℕ) (t' : Typed) (from' at : ℕ) (out : List ℕ) : Type 0 where
  pub same : last_of t' (drop from' held) ≡ last_of t (drop from held)
  pub joined : take at out ++ printed t' (drop from' held) ≡ printed t (drop from held)
  pub all : at < 32768 → from' ≡ length held
  pub onward : 32768 ≤ at → from < from'
  pub within : from' ≤ length held
  pub short : at ≤ length out

-- all that is held has been taken, and the line goes on; nothing is said where output cannot be written
abbrev pub Serves : List ℕ → Typed → Result Line Failure → List ℕ → Type 0
Serves held t (Ok l) room = (typed_in room l ≡ last_of t held) × Keeps room l
Serves held t (Err e) room = Unit {0}
