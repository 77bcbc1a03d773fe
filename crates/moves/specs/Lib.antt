-- What the contracts of `moves` cite beside `meaning`.
pub mod Moved
