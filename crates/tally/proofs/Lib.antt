-- Laws that the proofs of `tally` share, and those that the crates above cite.
pub mod Plus
pub mod Loop
pub mod Lengths
