-- What the contracts of `stdio`, and of the programs over it, cite beside `meaning`.
pub mod Pieces
pub mod Taking
pub mod Failures
