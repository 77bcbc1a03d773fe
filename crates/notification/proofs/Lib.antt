-- Laws that the proofs of `notification` share.
pub mod Reported
pub mod Turning
