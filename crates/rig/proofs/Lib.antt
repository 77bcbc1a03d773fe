-- Laws of what the program holds and takes.
pub mod Script
