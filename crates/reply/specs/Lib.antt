-- What the contracts of `reply` cite beside `meaning`.
pub mod Sections
