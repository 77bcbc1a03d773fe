-- Laws that the proofs of `desk` share.
pub mod Lines
pub mod Turns
