-- What a fitter has in hand after moves, by their contracts alone: one answer for what is lent, and there and back the same octets.
use Prim.Native.Nat.{ℕ}
use mathlib.Core.Path.{◌≡◌, refl, sym, ap, ◌∙◌}
use mathlib.Core.Bool.{true, cond}
use mathlib.Core.List.{List, ◌∷◌}
use lib.ListN.{length, drop}
use lib.Dec.{eqb}
use Rattle.meaning.specs.Calls.{Outcome}
use Rattle.meaning.specs.FormB.{profile_of, behind, sound_form_b}
use Rattle.meaning.specs.Moves.{none_in_flight, sound_old, forward, back}
use Rattle.meaning.proofs.Moved.{forward-done, back_done, there_and_back, back_and_there}
use Rattle.std.specs.Prelude.{Result, Ok, Err}
use Rattle.moves.specs.declared.Refusal.{Refusal}
use Rattle.moves.specs.declared.Refusal.TheVariants.{MemoryUnsound, RoomNotExact, NotRelease18, InFlight}
use Rattle.moves.specs.Moved.{number_of, length_of, Gives}

-- ---- one answer

answer : ℕ → ℕ → Result ℕ Refusal
answer k n = cond (eqb k 17) (Err InFlight) (cond (eqb k 19) (Err NotRelease18) (cond (eqb k 16) (Err RoomNotExact) (cond (eqb k 1) (Err MemoryUnsound) (Ok n))))

answer_is : (r : Result ℕ Refusal) → answer (number_of r) (length_of r) ≡ r
unfolding answer
answer_is (Ok n) = refl
answer_is (Err MemoryUnsound) = refl
answer_is (Err RoomNotExact) = refl
answer_is (Err NotRelease18) = refl
answer_is (Err InFlight) = refl

pub one_moved : (o : Outcome) (r q : Result ℕ Refusal) (m m' room room' : List ℕ) → Gives o r m room → Gives o q m' room' → (r ≡ q) × (m ≡ m') × (room ≡ room')
one_moved o r q m m' room room' g h =
    let told : answer (number_of r) (length_of r) ≡ answer (number_of q) (length_of q) = rw (g.number ∙ sym h.number, g.written ∙ sym h.written) in
    (sym (answer_is r) ∙ told ∙ answer_is q, g.memory_is ∙ sym h.memory_is, g.room_is ∙ sym h.room_is)

-- ---- there and back (RULES 23.12, 23.13)

-- a room that a first move filled, lent to the other move
pub there_and_back_reached : (m room room' first second : List ℕ) (r q : Result ℕ Refusal) → sound_old m ≡ true → length room ≡ 2101 → length room' ≡ 2100
    → Gives (forward m room) r m first → Gives (back first room') q first second → (number_of r ≡ 0) × (first ≡ 2 ∷ m) × (number_of q ≡ 0) × (second ≡ m)
there_and_back_reached m room room' first second r q s h h' g k =
    let f = forward-done m room s h in
    let e : first ≡ 2 ∷ m = g.room_is ∙ ap (λ (o : Outcome). o.room) f in
    let t = ap (λ (b : List ℕ). back b room') (e ∙ sym (ap (λ (o : Outcome). o.written) f)) ∙ there_and_back m room room' s h h' in
    (g.number ∙ ap (λ (o : Outcome). o.number) f, e, k.number ∙ ap (λ (o : Outcome). o.number) t, k.room_is ∙ ap (λ (o : Outcome). o.room) t)

pub back_and_there_reached : (b room room' first second : List ℕ) (r q : Result ℕ Refusal) → sound_form_b b ≡ true → profile_of b ≡ 2 → none_in_flight (behind b) ≡ true → length room ≡ 2100 → length room' ≡ 2101
    → Gives (back b room) r b first → Gives (forward first room') q first second → (number_of r ≡ 0) × (first ≡ drop 1 b) × (number_of q ≡ 0) × (second ≡ b)
back_and_there_reached b room room' first second r q s p n h h' g k =
    let f = back_done b room s h p n in
    let e : first ≡ drop 1 b = g.room_is ∙ ap (λ (o : Outcome). o.room) f in
    let t = ap (λ (m : List ℕ). forward m room') (e ∙ sym (ap (λ (o : Outcome). o.written) f)) ∙ back_and_there b room room' s p n h h' in
    (g.number ∙ ap (λ (o : Outcome). o.number) f, e, k.number ∙ ap (λ (o : Outcome). o.number) t, k.room_is ∙ ap (λ (o : Outcome). o.room) t)
