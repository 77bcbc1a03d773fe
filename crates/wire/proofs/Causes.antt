-- The octet of a cause is never 0.
use Prim.Native.Nat.{ℕ}
use native.Mathlib.Omega.{arith}
use mathlib.Core.Logic.{◌≢◌}
use Rattle.wire.specs.declared.Cause.{Cause}
use Rattle.wire.specs.declared.Cause.TheVariants.{NotSupported, InvalidValue, Unavailable, ProtocolError}
use Rattle.wire.specs.Causes.{octet_of}

pub octet_some : (c : Cause) → octet_of c ≢ 0
unfolding octet_of
octet_some NotSupported e = absurd (omega (arith, e))
octet_some InvalidValue e = absurd (omega (arith, e))
octet_some Unavailable e = absurd (omega (arith, e))
octet_some ProtocolError e = absurd (omega (arith, e))
