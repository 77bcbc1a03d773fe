-- What a line of input stands for.
pub mod Signs
pub mod Forms
pub mod Scanning
