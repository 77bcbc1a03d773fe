-- The laws of a loop over operations, those that the proof of `operation_at` cites, that what is handed out is what is parsed, what the
-- proofs of the reader share, and that all is handed out.
pub mod Turns
pub mod Found
pub mod Hands
pub mod Reading
pub mod ToTheEnd
