-- Laws of pieces, of octets moved to the front, and of pieces taken one after another.
pub mod Held
pub mod Taking
