-- Laws that the functions' proofs cite, and one of their answers.
pub mod Entries
pub mod Asked
pub mod OneAnswer
