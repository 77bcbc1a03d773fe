-- How long words and lines may be: what a function asks of the room, and what a message's lines take at most.
use Prim.Native.Nat.{ℕ, ◌+◌, ◌*◌, ◌≤◌}
use native.Mathlib.Omega.{arith}
use mathlib.Core.Path.{◌≡◌, refl}
use mathlib.Core.Bool.{Bool, true, false, cond}
use mathlib.Core.List.{List}
use lib.ListN.{length, length-append}
use lib.Dec.{leb, ltb, eqb}
use borrow.Author.Tests.{leb-true, ltb-true, ltb-false}
use Rattle.meaning.specs.Octets.{below, be16}
use Rattle.meaning.specs.Table.{place}
use Rattle.meaning.specs.Reply.{Held, Failed, held_octets, short_octets, failed_octets}
use Rattle.meaning.specs.Capture.{OneRecord, a_name, a_value, a_read_error, an_update, an_update_error, a_long_update}
use Rattle.meaning.proofs.Tests.{below_at}
use Rattle.octets.specs.Letters.{letters}
use Rattle.text.specs.Lines.{hex}
use Rattle.text.proofs.Writes.{octets-short}
use Rattle.words.specs.Words.{parameters, word_at, word, cause_word}
use Rattle.words.specs.Lines.{started, name_line, held_line, failed_line, record_line, record_size}
use Rattle.words.proofs.Written.{word_past}

each_short : below 19 (λ k. leb (length (word_at k)) 29) ≡ true
unfolding below word_at parameters letters
each_short = refl

pub word-short : (name : ℕ) → length (word name) ≤ 29
unfolding word letters
word-short name = at (ltb (place name) 19) refl
  where
    at : (b : Bool) → ltb (place name) 19 ≡ b → length (word_at (place name)) ≤ 29
    at true e = leb-true _ 29 (below_at 19 (λ k. leb (length (word_at k)) 29) each_short (place name) (ltb-true _ 19 e))
    at false e = rw (word_past (place name) (ltb-false _ 19 e)) (omega arith)

either_short : (n : ℕ) (b : Bool) (v w : List ℕ) → length v ≤ n → length w ≤ n → length (cond b v w) ≤ n
either_short n true v w h k = h
either_short n false v w h k = k

pub cause-short : (c : ℕ) → length (cause_word c) ≤ 14
unfolding cause_word letters
cause-short c =
    either_short 14 (eqb c 1) _ _ (omega arith)
    (either_short 14 (eqb c 2) _ _ (omega arith) (either_short 14 (eqb c 3) _ _ (omega arith) (omega arith)))

-- ---- lines

pub started-short : (kind : List ℕ) (name : ℕ) → length (started kind name) ≤ length kind + 34
unfolding started hex be16 letters
started-short kind name = simp length-append (omega (arith, word-short name))

name-short : (name : ℕ) → length (name_line name) ≤ 42
unfolding name_line letters
name-short name = simp length-append (omega (arith, started-short (letters "  name ") name))

held-short : (kind : List ℕ) (h : Held) → length (held_line kind h) ≤ length kind + (length h.value + length h.value + 37)
unfolding held_line letters
held-short kind h = simp length-append (omega (arith, started-short kind h.name, octets-short h.value))

failed-short : (kind : List ℕ) (f : Failed) → length (failed_line kind f) ≤ length kind + 53
unfolding failed_line letters hex
failed-short kind f = simp length-append (omega (arith, started-short kind f.name, cause-short f.cause))

-- a record takes as many octets in a message as it is spelt with there
pub size_spelt : (n : ℕ) (h : Held) (f : Failed)
    → (record_size (a_name n) ≡ length (be16 n))
    × (record_size (a_value h) ≡ length (held_octets h))
    × (record_size (a_read_error f) ≡ length (failed_octets f))
    × (record_size (an_update h) ≡ length (short_octets h))
    × (record_size (an_update_error f) ≡ length (failed_octets f))
    × (record_size (a_long_update h) ≡ length (held_octets h))
unfolding record_size held_octets short_octets failed_octets be16
size_spelt n h f = (refl, omega arith, refl, omega arith, refl, omega arith)

-- a line has at most 24 octets for each that its record takes in the message
pub line-bounded : (r : OneRecord) → length (record_line r) ≤ 24 * record_size r
unfolding record_line record_size letters
line-bounded (a_name n) = omega (arith, name-short n)
line-bounded (a_value h) = omega (arith, held-short (letters "  value ") h)
line-bounded (a_read_error f) = omega (arith, failed-short (letters "  read-error ") f)
line-bounded (an_update h) = omega (arith, held-short (letters "  update ") h)
line-bounded (an_update_error f) = omega (arith, failed-short (letters "  update-error ") f)
line-bounded (a_long_update h) = omega (arith, held-short (letters "  long-update ") h)
