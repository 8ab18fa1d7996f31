-- Laws of the estimates of a sheet that was read, and of the calls.
pub mod Found
pub mod Answers
