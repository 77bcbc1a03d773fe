-- Form B (RULES 23.1 to 23.4): the profile, an octet, ahead of the 2,100 octets of memory. The calls as a host makes them, on what it lends.
use Rattle.std.specs.Prelude.{ℕ, Bool, ◌&&◌, List, [], ◌∷◌, length, drop, eqb, ℤ}
use Rattle.meaning.specs.Octets.{octet}
use Rattle.meaning.specs.Checks.{Checks, passed, check, first_failed, when_passed}
use Rattle.meaning.specs.Profile.{is_profile, sound_in}
use Rattle.meaning.specs.Calls.{Outcome, call}
use Rattle.meaning.specs.Calls as calls
use Rattle.meaning.specs.Gates.{Gates, refused}
use Rattle.meaning.specs.Gates as driver

-- ---- the form

abbrev pub form_length : ℕ
form_length = 2101

-- memory of a profile in form B; the profile of what is lent, and the memory behind it
abbrev pub ahead : ℕ → List ℕ → List ℕ
ahead p m = p ∷ m

abbrev pub profile_of : List ℕ → ℕ
profile_of b = octet b 0

abbrev pub behind : List ℕ → List ℕ
behind b = drop 1 b

unfoldable pub in_form_b : List ℕ → Bool
in_form_b b = eqb (length b) form_length && is_profile (profile_of b)

unfoldable pub sound_form_b : List ℕ → Bool
sound_form_b b = in_form_b b && sound_in (profile_of b) (behind b)

-- ---- the calls

-- the outcome of a call on memory, as it is in form B
abbrev pub formed : ℕ → Outcome → Outcome
formed p o = record { number = o.number; position = o.position; written = o.written; memory = ahead p o.memory; room = o.room }

-- the outcome of a call on the memory of b and by its profile, if b is in form B
unfoldable pub lent : List ℕ → List ℕ → (ℕ → List ℕ → Outcome) → Outcome
lent b room made = call (check 1 (in_form_b b) passed) (formed (profile_of b) (made (profile_of b) (behind b))) b room

unfoldable pub message : List ℕ → List ℕ → List ℕ → Outcome
message b s room = lent b room (λ p m. calls.message p m s room)

unfoldable pub local_value : List ℕ → ℕ → List ℕ → Outcome
local_value b n v = lent b [] (λ p m. calls.local_value p m n v)

unfoldable pub build : List ℕ → List ℕ → Outcome
build b room = lent b room (λ p m. calls.build p m room)

unfoldable pub expiry : List ℕ → Outcome
expiry b = lent b [] (λ p m. calls.expiry p m)

-- it looks at the length and at the profile that is asked for, and writes that octet too (RULES 6.4, 24.2)
unfoldable pub fresh_checks : List ℕ → ℕ → Checks
fresh_checks b p = check 1 (eqb (length b) form_length) (check 18 (is_profile p) passed)

unfoldable pub make_fresh : List ℕ → ℕ → Outcome
make_fresh b p = call (fresh_checks b p) (formed p (calls.make_fresh (behind b))) b []

unfoldable pub gates : List ℕ → ℤ → Gates
gates b instant = when_passed (first_failed (check 1 (in_form_b b) passed)) (driver.gates (profile_of b) (behind b) instant) refused
