-- What the contracts of `endpoint` cite beside `meaning`.
pub mod Outcomes
