-- Where no answer comes with a change, memory is as it was.
use Prim.Native.Nat.{ℕ, zero, suc}
use mathlib.Core.Path.{◌≡◌, refl}
use mathlib.Core.Bool.{Bool, true, false, ◌||◌, true≢false}
use mathlib.Core.List.{List, [], ◌∷◌, map}
use Rattle.meaning.specs.Checks.{first_failed, when_passed}
use Rattle.meaning.specs.Operation.{Op, capabilities, read, set, subscribe, unsubscribe, selective_read, selective_subscribe, selective_unsubscribe, delete_entry}
use Rattle.meaning.specs.Table.{place}
use Rattle.meaning.specs.Memory.{store}
use Rattle.meaning.specs.Step.{value, read_error, update, update_error, shown, read_checks, read_answer, set_checks, stored, set_answer, set_memory, step, answer, after, answers}
use Rattle.command.specs.Answers.{told, may_change, any_change}

neither : (a b : Bool) → (a || b) ≡ false → (a ≡ false) × (b ≡ false)
neither true b e = absurd (true≢false e)
neither false b e = (refl, e)

pub step_unchanged : (p : ℕ) (m : List ℕ) (o : Op) → may_change (told (answer p m o)) ≡ false → step p m o ≡ m
unfolding may_change told answer step set_answer set_memory when_passed
step_unchanged p m capabilities e = refl
step_unchanged p m (read n) e = refl
step_unchanged p m (set n v) e = go (first_failed (set_checks p m n v)) e
  where
    go : (c : ℕ) → may_change (told (when_passed c (update n v) (update_error n))) ≡ false → when_passed c (store m (place n) (stored p m (place n) v)) (λ _. m) ≡ m
    go zero e = absurd (true≢false e)
    go (suc c) e = refl
step_unchanged p m (subscribe n) e = absurd (true≢false e)
step_unchanged p m (unsubscribe n) e = absurd (true≢false e)
step_unchanged p m (selective_read n v) e = refl
step_unchanged p m (selective_subscribe n v) e = refl
step_unchanged p m (selective_unsubscribe n v) e = refl
step_unchanged p m (delete_entry n v) e = refl

pub after_unchanged : (p : ℕ) (m : List ℕ) (os : List Op) → any_change (answers p m os) ≡ false → after p m os ≡ m
unfolding any_change answers after
after_unchanged p m [] e = refl
after_unchanged p m (o ∷ os) e =
    let n = neither (may_change (told (answer p m o))) _ e in
    let s = step_unchanged p m o n.0 in
    rw s (after_unchanged p m os (rw s at n.1))

-- a command of reads alone changes nothing
read_unchanging : (p : ℕ) (m : List ℕ) (n : ℕ) → may_change (told (read_answer p m n)) ≡ false
unfolding may_change told read_answer when_passed
read_unchanging p m n = go (first_failed (read_checks p m n))
  where
    go : (c : ℕ) → may_change (told (when_passed c (value n (shown p m (place n))) (read_error n))) ≡ false
    go zero = refl
    go (suc c) = refl

pub reads_alone : (p : ℕ) (m : List ℕ) (ns : List ℕ) → any_change (answers p m (map read ns)) ≡ false
unfolding any_change answers answer step
reads_alone p m [] = refl
reads_alone p m (n ∷ ns) = rw (read_unchanging p m n) (reads_alone p m ns)
