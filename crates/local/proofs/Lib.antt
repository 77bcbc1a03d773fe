-- Laws that the proofs of `local` share, and those about what its contracts say.
pub mod Values
