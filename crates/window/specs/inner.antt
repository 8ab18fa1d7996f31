-- What only code and proofs need.
pub mod Counting
pub mod Lines
pub mod Report
