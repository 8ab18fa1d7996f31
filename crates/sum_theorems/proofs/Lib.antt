-- What holds of every calc line: the proofs.
pub mod Sums
