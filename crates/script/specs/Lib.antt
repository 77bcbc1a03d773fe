-- What the contracts of `script` cite beside `meaning`, `endpoint`, `text` and `answers`.
pub mod Instructions
pub mod Takes
