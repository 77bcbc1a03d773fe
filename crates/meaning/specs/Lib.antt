-- The rules, docs/RULES.md, as definitions, in the order to read them in.
pub mod Octets
pub mod Checks
pub mod Table
pub mod Wire
pub mod Block
pub mod Memory
pub mod Profile
pub mod Delay
pub mod Operation
pub mod Step
pub mod Reply
pub mod Calls
pub mod Gates
pub mod FormB
pub mod Moves
pub mod Capture
