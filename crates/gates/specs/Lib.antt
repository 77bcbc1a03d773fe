-- What the contracts of `gates` cite beside `meaning`.
pub mod Answers
