-- Laws of the words and lines that the functions write.
pub mod Written
pub mod Short
pub mod Examples
