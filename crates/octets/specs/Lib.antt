-- What the contracts of those who write octets say of a room, and text as octets.
pub mod Writing
pub mod Filling
pub mod Letters
