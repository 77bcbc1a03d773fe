-- Laws of the records' lengths, of what the functions leave in a room, of octets written piece by piece, and of the names of a profile.
pub mod Lengths
pub mod Written
pub mod Pieces
pub mod Names
