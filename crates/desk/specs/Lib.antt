-- What the contracts of `desk` cite beside `typed` and `words`.
pub mod Lines
