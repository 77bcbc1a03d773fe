-- Laws that the proofs of `reply` share.
pub mod Parts
pub mod Prefaces
