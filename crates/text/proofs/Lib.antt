-- Laws of the text that the functions write.
pub mod Writes
pub mod Decimals
