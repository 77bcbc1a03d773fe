-- Laws of instructions: their codes and calls, and what is left in the arrays.
pub mod Codes
pub mod Instants
pub mod Lend
pub mod Told
pub mod MoveTold
