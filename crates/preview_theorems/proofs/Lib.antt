-- What the numbers of `at` and `within` are: the proofs.
pub mod Numbers
