-- What the functions write is what the definitions say: the arms of the words, and lines of several parts.
use Prim.Native.Nat.{ℕ, ◌+◌, ◌≤◌}
use native.Mathlib.Omega.{arith}
use mathlib.Core.Path.{◌≡◌, refl, sym, ap, ◌∙◌}
use mathlib.Core.List.{List, [], ◌∷◌, ◌++◌}
use lib.ListN.{length, set, length-append, get_or-eq_default}
use borrow.Author.Tests.{ne_eqb}
use Rattle.meaning.specs.Table.{place}
use Rattle.meaning.specs.Reply.{Held, Failed}
use Rattle.octets.specs.Letters.{letters}
use Rattle.words.specs.Words.{parameters, word_at, word, cause_word}
use Rattle.words.specs.declared.Valued.{Valued}
use Rattle.words.specs.declared.Valued.TheVariants.{Value, Update, LongUpdate}
use Rattle.words.specs.declared.Failing.{Failing}
use Rattle.words.specs.declared.Failing.TheVariants.{ReadError, UpdateError}
use Rattle.words.specs.Lines.{held_line, failed_line, record_line, valued_word, valued, failing_word, failing}

-- ---- words

-- an arm: the word of a name is the one at its place
pub arm : (k name : ℕ) {p : ℕ} → p ≡ place name → p ≡ k → word name ≡ word_at k
unfolding word
arm k name e f = ap word_at (sym e ∙ f)

-- past the table's end
pub word_past : (k : ℕ) → 19 ≤ k → word_at k ≡ letters "unknown"
unfolding word_at parameters
word_past k h = rw (get_or-eq_default parameters "unknown" h)

pub other_cause : (c : ℕ) → (c ≡ 1 → ⊥) → (c ≡ 2 → ⊥) → (c ≡ 3 → ⊥) → cause_word c ≡ letters "protocol-error"
unfolding cause_word
other_cause c f g h = rw (ne_eqb c 1 f, ne_eqb c 2 g, ne_eqb c 3 h)

-- ---- kinds of records

-- the line of a record of a kind
pub valued_line : (k : Valued) (h : Held) → record_line (valued k h) ≡ held_line (valued_word k) h
unfolding record_line valued valued_word
valued_line Value h = refl
valued_line Update h = refl
valued_line LongUpdate h = refl

pub failing_line : (k : Failing) (f : Failed) → record_line (failing k f) ≡ failed_line (failing_word k) f
unfolding record_line failing failing_word
failing_line ReadError f = refl
failing_line UpdateError f = refl
