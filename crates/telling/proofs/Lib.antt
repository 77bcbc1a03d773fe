-- Laws that the proofs of `telling` share.
pub mod Tells
pub mod Records
pub mod Messages
