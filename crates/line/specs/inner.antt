-- What only code and proofs need.
pub mod LineAt
pub mod Reading
