-- What `bridge` does with its frames.
pub mod Frames
