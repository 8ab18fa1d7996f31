-- What the numbers of `at` and `within` are.
pub mod Numbers
