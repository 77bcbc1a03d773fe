-- What is left in the arrays: a front that was lent and came back, and what an instruction leaves of a call's answer or of a line.
use Prim.Native.Nat.{ℕ, ◌+◌, ◌≤◌}
use Rattle.std.specs.Prelude.{min}
use Rattle.std.proofs.Math.Nat.{zero-add, min-eq_left, min-eq_right}
use native.Mathlib.Omega.{arith}
use mathlib.Core.Path.{◌≡◌, refl, sym, ◌∙◌}
use mathlib.Core.Bool.{Bool, true, false, cond}
use lib.Dec.{ltb}
use borrow.Author.Tests.{ltb-true, ltb-false}
use mathlib.Core.List.{List, ◌++◌}
use lib.ListN.{length, take, drop, replicate, length-replicate, take-append-drop}
use lib.Seq.{drop_at, length-take-le}
use Rattle.meaning.specs.Octets.{splice}
use Rattle.meaning.specs.Delay.{low_first, delay}
use Rattle.meaning.specs.Calls.{Outcome}
use Rattle.octets.specs.Writing.{Wrote}
use Rattle.page.specs.declared.Page.{Page}
use Rattle.page.specs.Printing.{Prints}
use Rattle.octets.proofs.Splices.{splice_front}
use Rattle.text.specs.Lines.{octets_line, lent_line}
use Rattle.text.proofs.Writes.{octets-short, lent-short}
use Rattle.script.specs.Instructions.{Effect, room_length, anew, printed, told_line, answered}
use Rattle.script.specs.Takes.{Lends, Leaves}
use Rattle.script.specs.declared.Lent.{Lent}

-- ---- the front of an array

-- what was written at the front is found there
pub front_is : (s v : List ℕ) {n : ℕ} {s' : List ℕ} → Wrote s 0 v n s' → take n s' ≡ v
front_is s v w = rw (w.0, w.1, zero-add) (splice_front s v)

-- a front that stays
pub front_kept : (s : List ℕ) (n : ℕ) → n ≤ length s → Wrote s 0 (take n s) n s
unfolding splice
front_kept s n h =
    let l : 0 + length (take n s) ≡ n = zero-add _ ∙ length-take-le n s h in
    (sym l, rw l (sym (take-append-drop n s)))

-- a front that was lent and came back, after something as long was written there
pub front_back : (s v w : List ℕ) {n : ℕ} {s₁ : List ℕ} → Wrote s 0 v n s₁ → length w ≡ n → Wrote s 0 w n (w ++ drop n s₁)
unfolding splice
front_back s v w {n} e l =
    let k : 0 + length v ≡ n = sym e.0 in
    let m : 0 + length w ≡ n = zero-add _ ∙ l in
    let d : drop n (v ++ drop n s) ≡ drop n s = drop_at v (drop n s) n (sym (zero-add _) ∙ k) in
    (sym m, rw (e.1, k, d, m))

-- how long a room is made
pub least : (asked : ℕ) → min asked 8192 ≡ room_length asked
unfolding room_length
least asked = at (ltb asked 8192) refl
  where
    at : (b : Bool) → ltb asked 8192 ≡ b → min asked 8192 ≡ cond b asked 8192
    at true e = min-eq_left (omega (arith, ltb-true asked 8192 e))
    at false e = min-eq_right (ltb-false asked 8192 e)

-- a room's front, filled
pub made : (room filled : List ℕ) (asked n : ℕ) → n ≡ room_length asked → filled ≡ replicate n 0xA5 ++ drop n room → Wrote room 0 (anew asked) n filled
unfolding anew splice
made room filled asked n e f =
    let v : List ℕ = replicate (room_length asked) 0xA5 in
    let l : 0 + length v ≡ n = zero-add (length v) ∙ length-replicate (room_length asked) 0xA5 ∙ sym e in
    (sym l, rw (l, ← e) f)

pub delay-short : (n : ℕ) → length (octets_line (delay n)) ≤ 16396
unfolding delay low_first
delay-short n = omega (arith, octets-short (delay n))

module _ {page page' : Page} (lent : Lent) {d : Effect} (b : Lends lent) where
  -- a line alone: memory and room stay
  pub line_left : (line m room : List ℕ) → d ≡ printed line (take lent.memory m) (take lent.room room) → Prints page line page' → length line ≤ 16396
      → length m ≡ 2200 → length room ≡ 8192 → Leaves d m room page page' lent m room
  line_left line m room e w s l k =
      rw e
      (record {
        printed = w;
        short = omega (arith, w.place, s);
        lends = b;
        memory_is = front_kept m lent.memory (omega (arith, l, b.0));
        room_is = front_kept room lent.room (omega (arith, k, b.1));
      })

  -- a call
  pub call_left : (code : ℕ) (o : Outcome) (m' m room' room room₁ last : List ℕ) → d ≡ answered code o → Prints page (told_line code o) page' → m' ≡ o.memory → room' ≡ o.room
      → page'.at ≤ page.at + 16396 → length m ≡ 2200 → Wrote room 0 last lent.room room₁ → length m' ≡ lent.memory → length room' ≡ lent.room
      → Leaves d m room page page' lent (m' ++ drop lent.memory m) (room' ++ drop lent.room room₁)
  call_left code o m' m room' room room₁ last e w i j s n f l k =
      rw e
      (record {
        printed = w;
        short = s;
        lends = b;
        memory_is = rw (← i) (front_back m (take lent.memory m) m' (front_kept m lent.memory (omega (arith, n, b.0))) l);
        room_is = rw (← j) (front_back room last room' f k);
      })

  -- a move, which leaves memory as it is
  pub move_left : (code : ℕ) (o : Outcome) (m room' room room₁ last : List ℕ) → d ≡ answered code o → Prints page (told_line code o) page'
      → o.memory ≡ take lent.memory m → room' ≡ o.room
      → page'.at ≤ page.at + 16396 → length m ≡ 2200 → Wrote room 0 last lent.room room₁ → length room' ≡ lent.room
      → Leaves d m room page page' lent m (room' ++ drop lent.room room₁)
  move_left code o m room' room room₁ last e w i j s n f k =
      rw e
      (record {
        printed = w;
        short = s;
        lends = b;
        memory_is = rw i (front_kept m lent.memory (omega (arith, n, b.0)));
        room_is = rw (← j) (front_back room last room' f k);
      })

  -- other memory
  pub lend_left : (body m m' room : List ℕ) → d ≡ printed (lent_line (length body)) body (take lent.room room) → Wrote m 0 body lent.memory m' → length room ≡ 8192
      → Prints page (lent_line lent.memory) page' → Leaves d m room page page' lent m' room
  lend_left body m m' room e f k w =
      rw e
      (record {
        printed = rw (f.0 ∙ zero-add (length body)) at w;
        short = omega (arith, w.place, lent-short lent.memory);
        lends = b;
        memory_is = f;
        room_is = front_kept room lent.room (omega (arith, k, b.1));
      })
