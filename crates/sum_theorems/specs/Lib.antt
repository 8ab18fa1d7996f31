-- What holds of every calc line.
pub mod Sums
