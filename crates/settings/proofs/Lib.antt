pub mod Stops
pub mod Told
pub mod Answers
pub mod Bounds
