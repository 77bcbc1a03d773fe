-- What the contracts of `operation` cite beside `meaning`.
pub mod Handing
