pub mod Writing
pub mod Numbers
