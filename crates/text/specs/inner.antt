-- What only code and proofs need.
pub mod Fronts
pub mod Steps
