-- What the contracts of `wire` cite beside `meaning`.
pub mod Causes
