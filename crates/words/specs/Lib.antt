-- What a captured message prints.
pub mod Words
pub mod Lines
