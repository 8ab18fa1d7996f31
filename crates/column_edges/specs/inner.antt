-- What only code and proofs need.
pub mod Lookup
pub mod Edges
