-- Laws that the functions' proofs cite.
pub mod Blocks
pub mod Weights
