pub mod Measures
pub mod inner
