-- Laws of the causes, which the crates above cite.
pub mod Causes
