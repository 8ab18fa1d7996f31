-- What only code and proofs need.
pub mod Held
pub mod Spans
pub mod Listed
