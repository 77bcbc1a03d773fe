-- Laws of what the functions leave in lent octets.
pub mod Splices
pub mod Tails
pub mod Blanks
pub mod Fills
