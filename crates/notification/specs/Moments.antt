-- What comes of a notification, and the flags of an entry then.
use Rattle.std.specs.Prelude.{ℕ, List, [], ◌∷◌}
use Rattle.meaning.specs.Memory.{is_present, is_subscribed, is_pending, is_in_flight, flags}
use Rattle.meaning.specs.Calls.{when_sent, when_acknowledged, when_given_up, pending_after, in_flight_after}
use Rattle.meaning.specs.Calls as calls
use Rattle.notification.specs.declared.Moment.{Moment}
use Rattle.notification.specs.declared.Moment.TheVariants.{Sent, Acknowledged, GivenUp}

unfoldable pub moment_of : Moment → calls.Moment
moment_of Sent = when_sent
moment_of Acknowledged = when_acknowledged
moment_of GivenUp = when_given_up

-- an octet of flags, as it stands in a cell, with what its marks become; present and subscribed as they were
unfoldable pub flags_after : calls.Moment → ℕ → ℕ
flags_after t f =
    let c : List ℕ = 0 ∷ 0 ∷ f ∷ [] in
    flags (is_present c) (is_subscribed c) (pending_after t (is_pending c) (is_in_flight c)) (in_flight_after t (is_pending c) (is_in_flight c))
