-- What the contracts of `memory` cite beside `meaning`.
pub mod Flags
