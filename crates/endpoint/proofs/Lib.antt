-- Laws that the proofs of `endpoint` share, and those about what its contracts say.
pub mod Exits
pub mod Lent
pub mod OneOutcome
pub mod Reached
pub mod ReadReached
pub mod BreaksReached
