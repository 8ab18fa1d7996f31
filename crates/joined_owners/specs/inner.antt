-- What only code and proofs need.
pub mod Places
