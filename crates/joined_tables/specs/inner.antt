-- What only code and proofs need.
pub mod Joining
