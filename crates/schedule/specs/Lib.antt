-- What the contracts of `schedule` cite beside `meaning`.
pub mod Rules
