-- Laws of the octets that the functions write and read.
pub mod Spelt
