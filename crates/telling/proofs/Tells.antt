-- The line of one record: the room that it asks for and the value that it has, by the kind of the record.
use Prim.Native.Nat.{ℕ, ◌+◌, ◌*◌, ◌≤◌}
use native.Mathlib.Omega.{arith}
use mathlib.Core.Path.{◌≡◌, subst}
use mathlib.Core.List.{List}
use lib.ListN.{length}
use borrow.Author.Tests.{eq-eqb, ne_eqb}
use Rattle.meaning.specs.Octets.{octet}
use Rattle.octets.specs.Letters.{letters}
use Rattle.contents.specs.Spans.{octets_of}
use Rattle.contents.specs.declared.Span.{Span}
use Rattle.capture.specs.Handing.{record_of, Inside}
use Rattle.capture.specs.declared.Record.{Record}
use Rattle.capture.specs.declared.Record.TheVariants.{Name, Value, ReadError, Update, UpdateError, LongUpdate}
use Rattle.meaning.specs.Capture.{is_reply}
use Rattle.words.specs.declared.Valued.TheVariants as valued
use Rattle.words.specs.declared.Failing.TheVariants as failing
use Rattle.words.specs.Lines.{record_size, valued_word, failing_word, complete_line, notify_line}
use Rattle.telling.specs.Remaining.{head_line}

module _ (s : List ℕ) (t : Record) (at len : ℕ) (i : Inside s t) (h : at + 24 * record_size (record_of s t) ≤ len) where
  abbrev Asks : Record → Type 0
  Asks r = Inside s r × (at + 24 * record_size (record_of s r) ≤ len)

  asked : (r : Record) → t ≡ r → Asks r
  asked r e = subst Asks e (i, h)

  pub name-room : (n : ℕ) → t ≡ Name n → at + 42 ≤ len
  unfolding record_size record_of
  name-room n e = omega (arith, (asked (Name n) e).1)

  pub read_error_room : (n c : ℕ) → t ≡ ReadError n c → at + (length (failing_word failing.ReadError) + 53) ≤ len
  unfolding record_size record_of failing_word letters
  read_error_room n c e = omega (arith, (asked (ReadError n c) e).1)

  pub update_error_room : (n c : ℕ) → t ≡ UpdateError n c → at + (length (failing_word failing.UpdateError) + 53) ≤ len
  unfolding record_size record_of failing_word letters
  update_error_room n c e = omega (arith, (asked (UpdateError n c) e).1)

  module _ (n : ℕ) (p : Span) where
    pub value-inside : t ≡ Value n p → (p.from ≤ p.to) × (p.to ≤ length s)
    value-inside e = (asked (Value n p) e).0

    pub update-inside : t ≡ Update n p → (p.from ≤ p.to) × (p.to ≤ length s)
    update-inside e = (asked (Update n p) e).0

    pub long-inside : t ≡ LongUpdate n p → (p.from ≤ p.to) × (p.to ≤ length s)
    long-inside e = (asked (LongUpdate n p) e).0

    pub value_room : t ≡ Value n p → at + (length (valued_word valued.Value) + (length (octets_of s p) + length (octets_of s p) + 37)) ≤ len
    unfolding record_size record_of valued_word letters
    value_room e = omega (arith, (asked (Value n p) e).1)

    pub update-room : t ≡ Update n p → at + (length (valued_word valued.Update) + (length (octets_of s p) + length (octets_of s p) + 37)) ≤ len
    unfolding record_size record_of valued_word letters
    update-room e = omega (arith, (asked (Update n p) e).1)

    pub long-room : t ≡ LongUpdate n p → at + (length (valued_word valued.LongUpdate) + (length (octets_of s p) + length (octets_of s p) + 37)) ≤ len
    unfolding record_size record_of valued_word letters
    long-room e = omega (arith, (asked (LongUpdate n p) e).1)

-- ---- the first line

pub complete-head : (s : List ℕ) → octet s 0 ≡ 2 → head_line s ≡ complete_line
unfolding head_line is_reply
complete-head s e = rw (eq-eqb (octet s 0) 2 e)

pub notify_head : (s : List ℕ) → (octet s 0 ≡ 2 → ⊥) → head_line s ≡ notify_line
unfolding head_line is_reply
notify_head s e = rw (ne_eqb (octet s 0) 2 e)
