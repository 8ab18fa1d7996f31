-- What only code and proofs need.
pub mod Steps
pub mod Nesting
pub mod Reading
