-- What the contracts of `table` cite beside `meaning`.
pub mod Rows
