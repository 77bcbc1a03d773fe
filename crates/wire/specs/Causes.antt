-- The causes of the code's enum as octets of `meaning`.
use Rattle.std.specs.Prelude.{ℕ}
use Rattle.meaning.specs.Wire.{cause_not_supported, cause_invalid_value, cause_unavailable, cause_protocol_error}
use Rattle.wire.specs.declared.Cause.{Cause}
use Rattle.wire.specs.declared.Cause.TheVariants.{NotSupported, InvalidValue, Unavailable, ProtocolError}

-- the octet that a cause has in a record
unfoldable pub octet_of : Cause → ℕ
octet_of NotSupported = cause_not_supported
octet_of InvalidValue = cause_invalid_value
octet_of Unavailable = cause_unavailable
octet_of ProtocolError = cause_protocol_error
