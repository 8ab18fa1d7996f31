pub mod Waiting
pub mod Measures
