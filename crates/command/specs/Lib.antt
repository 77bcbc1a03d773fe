-- What the contracts of `command` cite beside `meaning`.
pub mod Answers
