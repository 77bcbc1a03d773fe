-- What is printed on a page one after another.
pub mod Prints
