-- Laws of the layout of a table that was read, and of the call.
pub mod Found
pub mod Answers
