-- An answer as the code has it tells the answer of `meaning`: with the operation, the list and the memory afterwards it is the same again.
use Prim.Native.Nat.{ℕ, zero, suc}
use mathlib.Core.Path.{◌≡◌, refl}
use mathlib.Core.Bool.{Bool, true, false}
use mathlib.Core.List.{List}
use Rattle.meaning.specs.Octets.{part}
use Rattle.meaning.specs.Checks.{first_failed, when_passed}
use Rattle.meaning.specs.Table.{place}
use Rattle.meaning.specs.Memory.{present}
use Rattle.meaning.specs.Profile.{lists}
use Rattle.meaning.specs.Step.{update, update_error, read_answer, set_checks, set_answer, step, answer}
use Rattle.operation.specs.declared.NamedValue.{NamedValue}
use Rattle.operation.specs.declared.Op.{Op}
use Rattle.operation.specs.declared.Op.TheVariants.{Capabilities, Read, Set, Subscribe, Unsubscribe, SelectiveRead, SelectiveSubscribe, SelectiveUnsubscribe, DeleteEntry}
use Rattle.operation.specs.Handing.{op_of, name_of, from_of, size_of}
use Rattle.command.specs.declared.Answer.{Answer}
use Rattle.command.specs.Answers.{answer_of, InTable, told}
use Rattle.command.proofs.Sets.{lists-place, read_unlisted, read-absent, read-value}

module _ (p : ℕ) (m s : List ℕ) where
  -- the answer, and that the place of a value is one of the table
  abbrev Tells : Op → Answer → Type 0
  Tells o a = (answer_of p (step p m (op_of s o)) s o a ≡ answer p m (op_of s o)) × InTable a

  read_tells : (n : ℕ) → Tells (Read n) (told (read_answer p m n))
  unfolding answer_of told op_of name_of step answer
  read_tells n = go (lists p (place n)) refl
    where
      there : lists p (place n) ≡ true → (b : Bool) → present m (place n) ≡ b → Tells (Read n) (told (read_answer p m n))
      there h true e = rw (read-value p m n h e) (refl, lists-place p (place n) h)
      there h false e = rw (read-absent p m n h e) (refl, tt)

      go : (b : Bool) → lists p (place n) ≡ b → Tells (Read n) (told (read_answer p m n))
      go true h = there h (present m (place n)) refl
      go false h = rw (read_unlisted p m n h) (refl, tt)

  set_tells : (v : NamedValue) → Tells (Set v) (told (set_answer p m v.name (part s v.from v.size)))
  unfolding answer_of told op_of name_of from_of size_of answer set_answer when_passed
  set_tells v = go (first_failed (set_checks p m v.name sent))
    where
      sent : List ℕ
      sent = part s v.from v.size

      go : (c : ℕ) → (answer_of p (step p m (op_of s (Set v))) s (Set v) (told (when_passed c (update v.name sent) (update_error v.name))) ≡ when_passed c (update v.name sent) (update_error v.name)) × InTable (told (when_passed c (update v.name sent) (update_error v.name)))
      go zero = (refl, tt)
      go (suc c) = (refl, tt)

  tells : (o : Op) → Tells o (told (answer p m (op_of s o)))
  unfolding answer_of told op_of name_of answer
  tells Capabilities = (refl, tt)
  tells (Read n) = read_tells n
  tells (Set v) = set_tells v
  tells (Subscribe n) = (refl, tt)
  tells (Unsubscribe n) = (refl, tt)
  tells (SelectiveRead v) = (refl, tt)
  tells (SelectiveSubscribe v) = (refl, tt)
  tells (SelectiveUnsubscribe v) = (refl, tt)
  tells (DeleteEntry v) = (refl, tt)

  -- for the answer and the memory that an operation leaves
  pub told_back : (o : Op) (m' : List ℕ) (a : Answer) → m' ≡ step p m (op_of s o) → a ≡ told (answer p m (op_of s o)) → (answer_of p m' s o a ≡ answer p m (op_of s o)) × InTable a
  told_back o m' a e f = rw (e, f) (tells o)
