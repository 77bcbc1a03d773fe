-- What the contracts of `section` cite beside `meaning`.
pub mod Kinds
pub mod Places
pub mod Knowing
