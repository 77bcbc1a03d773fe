-- What the contracts of `soundness` cite beside `meaning`.
pub mod Fields
