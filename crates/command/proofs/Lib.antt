-- Laws that the proofs of `command` share, and those of a walk over all operations of a list, which the crates above cite.
pub mod Sets
pub mod Told
pub mod Walk
pub mod Shown
pub mod Unchanged
