-- What `rig` does with its instructions.
pub mod Script
