-- Laws that the functions' proofs cite, and those about what the contracts say.
pub mod Rooms
pub mod MovedReached
