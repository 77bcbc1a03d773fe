-- What the contracts say of a page.
pub mod Printing
