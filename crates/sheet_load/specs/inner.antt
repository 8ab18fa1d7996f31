-- What the functions of this crate take and promise.
pub mod Opened
pub mod Measures
