-- What the contracts of `capture` cite beside `meaning` and `contents`.
pub mod Opening
pub mod Handing
