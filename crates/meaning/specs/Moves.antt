-- The old form of memory, and the moves from it to form B and back (RULES 23.5 to 23.11, 24.11): calls that read memory and leave it as it is.
use Rattle.std.specs.Prelude.{ℕ, Bool, ◌&&◌, not, List, length, eqb}
use Rattle.meaning.specs.Octets.{below}
use Rattle.meaning.specs.Checks.{Checks, passed, check}
use Rattle.meaning.specs.Table.{entry_count, memory_length}
use Rattle.meaning.specs.Memory.{in_flight, sound}
use Rattle.meaning.specs.Profile.{release18}
use Rattle.meaning.specs.Calls.{Outcome, done, call}
use Rattle.meaning.specs.FormB.{form_length, ahead, profile_of, behind, sound_form_b}

unfoldable pub none_in_flight : List ℕ → Bool
none_in_flight m = below entry_count (λ k. not (in_flight m k))

-- sound in the old form (RULES 23.6)
unfoldable pub sound_old : List ℕ → Bool
sound_old m = sound m && none_in_flight m

-- ---- forward, from the old form to form B; the old form is of Release 18

unfoldable pub forward_checks : List ℕ → ℕ → Checks
forward_checks m n = check 1 (sound_old m) (check 16 (eqb n form_length) passed)

unfoldable pub forward : List ℕ → List ℕ → Outcome
forward m room = call (forward_checks m (length room)) (done (ahead release18 m) m room) m room

-- ---- back, from form B to the old form

unfoldable pub back_checks : List ℕ → ℕ → Checks
back_checks b n =
    check 1 (sound_form_b b)
    (check 16 (eqb n memory_length)
    (check 19 (eqb (profile_of b) release18)
    (check 17 (none_in_flight (behind b)) passed)))

unfoldable pub back : List ℕ → List ℕ → Outcome
back b room = call (back_checks b (length room)) (done (behind b) b room) b room
