-- What only code and proofs need.
pub mod Bound
pub mod Sheets
