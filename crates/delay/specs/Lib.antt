-- What the contracts cite beside the definitions of `meaning`.
pub mod Stored
