-- Laws that the functions' proofs cite.
pub mod Entries
pub mod Gaps
