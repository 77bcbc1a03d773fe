-- What the contracts of `contents` cite beside `meaning`.
pub mod Spans
