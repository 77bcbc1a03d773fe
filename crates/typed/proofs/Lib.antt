-- Laws of what a line stands for.
pub mod Signs
pub mod Forms
pub mod Scanning
pub mod Pairs
pub mod Feeds
pub mod Spelling
pub mod Examples
