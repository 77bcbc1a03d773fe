-- Laws that the functions' proofs cite.
pub mod Cells
pub mod Masks
pub mod Running
