-- The line of a call's outcome.
pub mod Answers
