-- The bound of a notification's length is reached: a port sends one of 559 octets.
use Prim.Native.Nat.{ℕ}
use mathlib.Core.Path.{◌≡◌, refl}
use mathlib.Core.Bool.{true}
use mathlib.Core.List.{List, [], ◌∷◌}
use lib.ListN.{length}
use Rattle.meaning.specs.Octets.{be16, flat, zeros}
use Rattle.meaning.specs.Wire.{notification_most}
use Rattle.meaning.specs.Memory.{sound, fresh}
use Rattle.meaning.specs.Profile.{release18}
use Rattle.meaning.specs.Calls.{notification}
use Rattle.meaning.proofs.All.{all}
use Rattle.meaning.proofs.Sendings.{Call, take_message, take_value, gives, after_calls}

-- the names that the port sets
names : List ℕ
names = 0x0001 ∷ 0x0008 ∷ 0x00A0 ∷ 0x00A1 ∷ 0x00A2 ∷ 0x00A3 ∷ 0x00A4 ∷ []

-- from fresh memory each is subscribed, and given a value of its largest length
pub fullest : List Call
fullest =
    take_message (1 ∷ 0 ∷ 21 ∷ flat (λ (n : ℕ). 4 ∷ be16 n) names) (zeros 1)
    ∷ take_value 0x0001 (zeros 8)
    ∷ take_value 0x0008 (zeros 4)
    ∷ take_value 0x00A0 (1 ∷ [])
    ∷ take_value 0x00A1 (zeros 255)
    ∷ take_value 0x00A2 (7 ∷ [])
    ∷ take_value 0x00A3 (zeros 255)
    ∷ take_value 0x00A4 (zeros 2)
    ∷ []

pub notification_reached : (sound (after_calls release18 fresh fullest) ≡ true) × (length (notification release18 (after_calls release18 fresh fullest)) ≡ notification_most)
unfolding all gives after_calls fullest names
notification_reached = (refl, refl)
