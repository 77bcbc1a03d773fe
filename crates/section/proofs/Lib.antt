-- Laws that the proofs of `section` share.
pub mod Shares
pub mod Knows
pub mod Pass
