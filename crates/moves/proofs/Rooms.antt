-- The length of what a move reads, what it gives at each way out, and the room filled.
use Prim.Native.Nat.{ℕ, ◌+◌}
use native.Mathlib.Omega.{arith}
use mathlib.Core.Path.{◌≡◌, refl, ap, ◌∙◌}
use mathlib.Core.Bool.{true}
use mathlib.Core.List.{List, [], ◌∷◌, ◌++◌, append-nil}
use lib.ListN.{length, length-drop, set, drop_of_length-le}
use Rattle.meaning.specs.Octets.{splice}
use Rattle.meaning.specs.Calls.{Outcome, number_only}
use Rattle.meaning.specs.FormB.{behind, sound_form_b}
use Rattle.meaning.proofs.Formed.{form_opened, sound-form}
use Rattle.meaning.proofs.Moved.{moved}
use Rattle.std.specs.Prelude.{Result, Ok, Err}
use Rattle.moves.specs.declared.Refusal.{Refusal}
use Rattle.moves.specs.Moved.{number_of, length_of, Gives}

-- memory that is sound in form B has 2,101 octets, whatever its profile, and 2,100 of them stand behind that
pub form-long : (b : List ℕ) → sound_form_b b ≡ true → length b ≡ 2101
form-long b s = (form_opened b (sound-form b s)).long

pub behind-long : (b : List ℕ) → sound_form_b b ≡ true → length (behind b) ≡ 2100
behind-long b s = length-drop 1 b ∙ omega (arith, form-long b s)

-- a refusal: the number, and nothing changed
pub gives_number : (m room : List ℕ) (n : ℕ) (why : Refusal) {o : Outcome} → o ≡ number_only n m room → number_of (Err why) ≡ n → Gives o (Err why) m room
gives_number m room n why e a = rw e (record { number = a; written = refl; memory_is = refl; room_is = refl })

-- done: the octets w fill the room
pub gives_moved : (w m : List ℕ) (n : ℕ) {o : Outcome} {room' : List ℕ} → o ≡ moved w m → n ≡ length w → room' ≡ w → Gives o (Ok n) m room'
gives_moved w m n e a b = rw e (record { number = refl; written = a; memory_is = refl; room_is = b })

-- an octet, and as many behind it as there is room for
pub filled_behind : (x : ℕ) (room m : List ℕ) → length room ≡ 1 + length m → splice (set room 0 x) 1 m ≡ x ∷ m
unfolding splice
filled_behind x [] m h = absurd (omega (arith, h))
filled_behind x (y ∷ room) m h =
    ap (λ (t : List ℕ). x ∷ m ++ t) (drop_of_length-le (x ∷ room) {i = 1 + length m} (omega (arith, h)))
    ∙ ap (λ (t : List ℕ). x ∷ t) (append-nil m)

-- an answer that is not done wrote nothing
pub nothing_written : (r : Result ℕ Refusal) → ((n : ℕ) → r ≡ Ok n → ⊥) → length_of r ≡ 0
nothing_written (Ok n) t = absurd (t n refl)
nothing_written (Err why) t = refl
