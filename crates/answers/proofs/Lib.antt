-- Laws of a call's answers.
pub mod Answered
