-- What the contracts of `telling` cite beside `capture` and `words`.
pub mod Remaining
