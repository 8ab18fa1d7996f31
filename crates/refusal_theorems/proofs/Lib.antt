-- What holds of every refusal: the proofs.
pub mod Checks
pub mod NoSeven
