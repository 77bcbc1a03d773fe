-- Laws that the functions' proofs cite.
pub mod Values
pub mod Walks
