-- Laws of places in a message, which the proofs of the functions and of those who call them cite.
pub mod Between
pub mod Lengths
pub mod Onward
pub mod Elements
pub mod Records
pub mod Counts
