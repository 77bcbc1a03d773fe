-- What the contracts of `tally` cite beside `meaning`.
pub mod Tallies
