-- What holds of every walk: the proofs.
pub mod Standing
pub mod Accepted
pub mod Sources
pub mod Narrowing
pub mod Without
pub mod Descent
