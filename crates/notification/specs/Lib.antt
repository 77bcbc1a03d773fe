-- What the contracts of `notification` cite beside `meaning`.
pub mod Reports
pub mod Moments
