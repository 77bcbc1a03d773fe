-- Lines of text.
pub mod Lines
