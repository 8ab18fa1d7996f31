-- Laws of the grid of a table that was read, and of the call.
pub mod Told
pub mod Found
pub mod Answers
